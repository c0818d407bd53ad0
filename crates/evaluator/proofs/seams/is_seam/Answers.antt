use Rattle.std.proofs.Common.{inl, inr, refl}
use Rattle.expr_parser.specs.View.{view}
use Rattle.evaluator.proofs.Leading.{view_add}
use Rattle.evaluator.proofs.seams.is_seam.Goals as goal

pub returns-then-begins_below : goal.returns-then-begins_below
returns-then-begins_below c =
    let at = c.in-Operation in
    λ h. (view at.left.value, view c.deref.result.now, view_add c.args.expr.now at.left.value c.deref.result.now at.operator at.left at.right at.is c.in-Add.is refl c.deref.ensures, inl (c.begins_below.ensures h))

pub returns-else-begins_below : goal.returns-else-begins_below
returns-else-begins_below c =
    let at = c.in-Operation in
    λ h. (view c.deref-else-begins_below.result.now, view at.right.value, view_add c.args.expr.now c.deref-else-begins_below.result.now at.right.value at.operator at.left at.right at.is c.in-Add.is c.deref-else-begins_below.ensures refl, inr (c.ends_below.ensures h))
