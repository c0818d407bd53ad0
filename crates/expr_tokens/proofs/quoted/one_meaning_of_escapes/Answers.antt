use Rattle.expr_tokens.proofs.Escapes.{one_meaning}
use Rattle.expr_tokens.proofs.quoted.one_meaning_of_escapes.Goals as goal

pub returns : goal.returns
returns c = one_meaning
