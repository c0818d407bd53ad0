use Rattle.std.proofs.Common.{arith, ap, ◌∙◌}
use Rattle.std.proofs.lemmas.Grind.{common_steps}
use Rattle.expr_parser.specs.View.{view, view_argument}
use Rattle.expr_parser.proofs.Knots.{view-Call, view-List}
use Rattle.lint.proofs.captures.+using.Goals as goal

pub is_given-returns-in-List : goal.is_given-returns-in-List
is_given-returns-in-List t c = rw (ap view_argument c.in-List.is ∙ view-List c.in-List.values) (grind (arith, common_steps))

pub uses-returns-else-uses : goal.uses-returns-else-uses
uses-returns-else-uses t c = rw (ap view c.in-Call.is ∙ view-Call c.in-Call.receiver c.in-Call.field-1 c.in-Call.arguments) (grind (arith, common_steps))
