use Rattle.std.proofs.Common.{arith, ap, ◌∙◌}
use Rattle.std.proofs.lemmas.Grind.{common_steps}
use Rattle.expr_parser.specs.View.{view_argument}
use Rattle.expr_parser.proofs.Knots.{view-List}
use Rattle.expr_places.proofs.places.push_argument.Goals as goal

pub returns-in_ok-sum-in-List : goal.returns-in_ok-sum-in-List
returns-in_ok-sum-in-List c = rw (ap view_argument c.in-List.is ∙ view-List c.in-List.elements) (grind (arith, common_steps))
