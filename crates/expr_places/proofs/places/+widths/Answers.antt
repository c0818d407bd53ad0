use Rattle.std.proofs.Common.{arith, ap, ◌∙◌}
use Rattle.std.proofs.lemmas.Grind.{common_steps}
use Rattle.expr_parser.specs.View.{view, view_argument}
use Rattle.expr_parser.proofs.Knots.{view-Call, view-List}
use Rattle.expr_places.proofs.places.+widths.Goals as goal

-- src/places.rt:56:1
pub argument_width-returns-in-List : goal.argument_width-returns-in-List
argument_width-returns-in-List t c = rw (ap view_argument c.in-List.is ∙ view-List c.in-List.elements) (grind (arith, common_steps))

-- src/places.rt:21:1
pub width-returns-in_ok-given_width-in-Call : goal.width-returns-in_ok-given_width-in-Call
width-returns-in_ok-given_width-in-Call t c = rw (ap view c.in-Call.is ∙ view-Call c.in-Call.receiver c.in-Call.field-1 c.in-Call.arguments) (grind (arith, common_steps))
