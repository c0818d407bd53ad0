use Rattle.expr_parser.proofs.Placed.{one_expression}
use Rattle.expr_parser.proofs.from_text.one_expression.Goals as goal

pub returns : goal.returns
returns c = one_expression
