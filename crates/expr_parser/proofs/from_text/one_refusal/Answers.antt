use Rattle.expr_parser.proofs.Refusals.{one_refusal, none_of_spelled}
use Rattle.expr_parser.proofs.from_text.one_refusal.Goals as goal

pub returns-clause-one : goal.returns-clause-one
returns-clause-one c = one_refusal

pub returns-clause-none : goal.returns-clause-none
returns-clause-none c = none_of_spelled
