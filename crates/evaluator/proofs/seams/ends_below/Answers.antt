use Rattle.std.proofs.Common.{inr, refl}
use Rattle.expr_parser.specs.View.{view}
use Rattle.evaluator.proofs.Leading.{view_add}
use Rattle.evaluator.proofs.seams.ends_below.Goals as goal

pub returns-in-Add : goal.returns-in-Add
returns-in-Add c =
    let at = c.in-Operation in
    λ h. inr (view at.field-1.value, view c.deref.result.now, view_add c.args.expr.now at.field-1.value c.deref.result.now at.operator at.field-1 at.last at.is c.in-Add.is refl c.deref.ensures, c.is_closed.ensures h)
