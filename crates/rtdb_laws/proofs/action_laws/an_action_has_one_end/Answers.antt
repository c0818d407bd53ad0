use Rattle.rtdb_laws.proofs.Acted.{step_stays}
use Rattle.rtdb_laws.proofs.action_laws.an_action_has_one_end.Goals as goal

pub returns : goal.returns
returns c = step_stays
