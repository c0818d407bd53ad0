use Rattle.std.proofs.Common.{arith, ap, ◌∙◌}
use Rattle.std.proofs.lemmas.Grind.{common_steps}
use Rattle.expr_parser.specs.View.{view}
use Rattle.expr_parser.proofs.Knots.{view-Call}
use Rattle.lint.proofs.demands.+asks.Goals as goal

pub returns-then-is_new_data : goal.returns-then-is_new_data
returns-then-is_new_data t c = rw (ap view c.in-Call.is ∙ view-Call c.in-Call.receiver c.in-Call.name c.in-Call.arguments) (grind (arith, common_steps))
