use Rattle.expr_tokens.proofs.Answered.{each_text}
use Rattle.expr_tokens.proofs.scanner.each_text_has_tokens_or_a_fault.Goals as goal

pub returns : goal.returns
returns c = each_text
