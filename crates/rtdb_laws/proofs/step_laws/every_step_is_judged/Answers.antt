use Rattle.rtdb_laws.proofs.StepLaws.{judged}
use Rattle.rtdb_laws.proofs.step_laws.every_step_is_judged.Goals as goal

pub returns : goal.returns
returns c = judged
