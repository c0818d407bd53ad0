use Rattle.expr_types.proofs.There.{there}
use Rattle.expr_types.proofs.laws.captures_that_are_named_are_there.Goals as goal

pub returns : goal.returns
returns c place names x s f d e = there names f d e
