use Rattle.tree_model.proofs.Lawful.{IsLawful-null}
use Rattle.judge.proofs.judging.law_of.Goals as goal

pub returns-in-None : goal.returns-in-None
returns-in-None c = rw c.in-None.is IsLawful-null
