use Rattle.expr_parser.proofs.Top.{one_expression}
use Rattle.expr_parser.proofs.parser.one_expression_of_tokens.Goals as goal

pub returns : goal.returns
returns c = one_expression
