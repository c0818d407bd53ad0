use Rattle.std.proofs.Common.{arith, ap, ◌∙◌}
use Rattle.std.proofs.lemmas.Grind.{common_steps}
use Rattle.expr_parser.specs.View.{view, view_argument}
use Rattle.expr_parser.proofs.Knots.{view-Call, view-List}
use Rattle.expr_types.proofs.scope.+scopes.Goals as goal

pub scope_of-returns-else-eq : goal.scope_of-returns-else-eq
scope_of-returns-else-eq t c = rw (ap view c.in-Call.is ∙ view-Call c.in-Call.receiver c.in-Call.name c.in-Call.arguments) (grind (arith, common_steps))

pub of_argument-returns-in-List : goal.of_argument-returns-in-List
of_argument-returns-in-List t c = rw (ap view_argument c.in-List.is ∙ view-List c.in-List.values) (grind (arith, common_steps))
