use Rattle.expr_tokens.proofs.Whole.{one_list}
use Rattle.expr_tokens.proofs.scanner.one_list.Goals as goal

pub returns : goal.returns
returns c = one_list
