use Rattle.rtdb_laws.proofs.Establishing.{below_decides}
use Rattle.rtdb_laws.proofs.action_laws.what_is_taken_back_lies_below.Goals as goal

pub returns : goal.returns
returns c = below_decides
