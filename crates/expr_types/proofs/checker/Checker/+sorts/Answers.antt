use Rattle.std.proofs.Common.{arith, ap, ◌∙◌}
use Rattle.std.proofs.lemmas.Grind.{common_steps}
use Rattle.expr_parser.specs.View.{view, view_argument}
use Rattle.expr_parser.proofs.Knots.{view-Call, view-List}
use Rattle.expr_types.proofs.checker.Checker.+sorts.Goals as goal

pub sort-returns-in_err-given-in-Call : goal.sort-returns-in_err-given-in-Call
sort-returns-in_err-given-in-Call t c = rw (ap view c.in-Call.is ∙ view-Call c.in-Call.receiver c.in-Call.name c.in-Call.arguments) (grind (arith, common_steps))

pub sort-returns-in_ok-given-in-Call : goal.sort-returns-in_ok-given-in-Call
sort-returns-in_ok-given-in-Call t c = rw (ap view c.in-Call.is ∙ view-Call c.in-Call.receiver c.in-Call.name c.in-Call.arguments) (grind (arith, common_steps))

pub with_argument-returns-in_err-are_values-in-List : goal.with_argument-returns-in_err-are_values-in-List
with_argument-returns-in_err-are_values-in-List t c = rw (ap view_argument c.in-List.is ∙ view-List c.in-List.values) (grind (arith, common_steps))

pub with_argument-returns-then-branch : goal.with_argument-returns-then-branch
with_argument-returns-then-branch t c = rw (ap view_argument c.in-List.is ∙ view-List c.in-List.values) (grind (arith, common_steps))

pub with_argument-returns-else-branch : goal.with_argument-returns-else-branch
with_argument-returns-else-branch t c = rw (ap view_argument c.in-List.is ∙ view-List c.in-List.values) (grind (arith, common_steps))
