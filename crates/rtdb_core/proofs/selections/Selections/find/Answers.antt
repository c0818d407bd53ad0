use Rattle.std.proofs.Common.{◌∙◌, Some, ap, sym, subst, arith}
use Rattle.std.specs.Ordering.{is_eq}
use Rattle.tree_model.proofs.Orders.{same_path}
use Rattle.tree_model.specs.Tree.{non_null}
use Rattle.arena_snapshot.specs.View.{node_or_null}
use Rattle.arena_snapshot.proofs.Tests.{from_true}
use Rattle.rtdb_model.specs.Rejudged.{selected_at}
use Rattle.rtdb_core.specs.Working.Selections.{AreSelected}
use Rattle.rtdb_core.specs.declared.selections.Selected.{Selected}
use Rattle.rtdb_core.proofs.Finding.{kept_so}
use Rattle.rtdb_core.proofs.selections.Selections.find.Goals as goal

pub returns-then-is_eq : goal.returns-then-is_eq
returns-then-is_eq c =
    let tree = node_or_null c.self.inside.tree in
    let it : Selected = c.kept-item.result in
    let path = c.args.path.now in
    let query = c.args.query.now in
    c.shared.ensures
    ∙ kept_so tree c.as_slice-kept-items.result.now c.loop-kept.kept-index it path query
    (subst (AreSelected tree) (sym c.as_slice-kept-items.ensures.value) c.self.invariant)
    (let low = c.loop-kept-test.true in omega arith)
    c.kept-item.is
    (same_path it.path.now path (ap is_eq (sym c.compare.ensures) ∙ sym c.is_eq.ensures ∙ c.if-is_eq.true))
    (from_true _ _ c.is_same.ensures.same c.if-is_same.true)
    ∙ (λ i. non_null (selected_at (c.self.view_is i) path (Some query)))
