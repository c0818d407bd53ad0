use Rattle.expr_places.proofs.Spelled.{spelled}
use Rattle.expr_places.proofs.laws.tokens_that_spell_an_expression.Goals as goal

pub returns : goal.returns
returns c n d from to x h = spelled h
