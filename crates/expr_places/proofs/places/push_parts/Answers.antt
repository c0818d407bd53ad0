use Rattle.std.proofs.Common.{arith, ap, ◌∙◌}
use Rattle.std.proofs.lemmas.Grind.{common_steps}
use Rattle.expr_parser.specs.View.{view}
use Rattle.expr_parser.proofs.Knots.{view-Call}
use Rattle.expr_places.proofs.places.push_parts.Goals as goal

pub returns-in-Call : goal.returns-in-Call
returns-in-Call c = rw (ap view c.in-Call.is ∙ view-Call c.in-Call.receiver c.in-Call.field-1 c.in-Call.arguments) (grind (arith, common_steps))
