use Rattle.expr_parser.proofs.Answered.{each_text}
use Rattle.expr_parser.proofs.from_text.each_text_is_read_or_refused.Goals as goal

pub returns : goal.returns
returns c = each_text
