use Rattle.std.proofs.Common.{◌∙◌, Some, ap, sym, subst, arith}
use Rattle.std.specs.Ordering.{is_eq}
use Rattle.tree_model.proofs.Orders.{same_path}
use Rattle.arena_snapshot.proofs.Tests.{from_true}
use Rattle.rtdb_model.specs.Rejudged.{moves}
use Rattle.rtdb_core.specs.Working.Moved.{AreFound}
use Rattle.rtdb_core.specs.Working.Passages.{tree_before, tree_after}
use Rattle.rtdb_core.specs.declared.moved.Found.{Found}
use Rattle.rtdb_core.proofs.Finding.{found_so}
use Rattle.rtdb_core.proofs.moved.Moved.find.Goals as goal

pub returns-then-is_eq : goal.returns-then-is_eq
returns-then-is_eq c =
    let p = c.self.inside.passage.now in
    let items = c.as_slice-found-items.result.now in
    let f : Found = c.found-item.result in
    let path = c.args.path.now in
    let query = c.args.query.now in
    found_so (tree_before p) (tree_after p) items c.loop-found.found-index f path query
    (subst (AreFound (tree_before p) (tree_after p)) (sym c.as_slice-found-items.ensures.value) c.self.invariant.1)
    (let low = c.loop-found-test.true in omega arith)
    c.found-item.is
    (same_path f.path.now path (ap is_eq (sym c.compare.ensures) ∙ sym c.is_eq.ensures ∙ c.if-is_eq.true))
    (from_true _ _ c.is_same.ensures.same c.if-is_same.true)
    ∙ (λ i. moves (c.self.view_is i).0 (c.self.view_is i).1 path (Some query))
