use Rattle.rtdb_laws.proofs.Endings.{end_of_failed}
use Rattle.rtdb_laws.proofs.listener_laws.a_failed_grant_is_the_end.Goals as goal

pub returns : goal.returns
returns c = end_of_failed
