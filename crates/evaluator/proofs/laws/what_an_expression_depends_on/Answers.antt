use Rattle.evaluator.proofs.Depends.{depends}
use Rattle.evaluator.proofs.laws.what_an_expression_depends_on.Goals as goal

pub returns : goal.returns
returns c x one other h = depends x one other h
