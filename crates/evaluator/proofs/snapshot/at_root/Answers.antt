use Rattle.evaluator.proofs.Places.{root_is, no_root}
use Rattle.evaluator.proofs.snapshot.at_root.Goals as goal

pub returns-in-Some : goal.returns-in-Some
returns-in-Some c = root_is _ _ c.in-Some.is c.law.ensures.some

pub returns-in-None : goal.returns-in-None
returns-in-None c = no_root _ c.in-None.is
