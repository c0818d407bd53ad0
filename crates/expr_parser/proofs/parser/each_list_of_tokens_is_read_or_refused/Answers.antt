use Rattle.expr_parser.proofs.Answered.{each_parsed}
use Rattle.expr_parser.proofs.parser.each_list_of_tokens_is_read_or_refused.Goals as goal

pub returns : goal.returns
returns c = each_parsed
