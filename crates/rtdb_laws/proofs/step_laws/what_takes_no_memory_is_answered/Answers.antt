use Rattle.rtdb_laws.proofs.StepLaws.{answered}
use Rattle.rtdb_laws.proofs.step_laws.what_takes_no_memory_is_answered.Goals as goal

pub returns : goal.returns
returns c = answered
