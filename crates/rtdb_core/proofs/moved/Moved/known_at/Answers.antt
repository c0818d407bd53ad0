use Rattle.std.proofs.Common.{◌≡◌, ◌≢◌, ◌∙◌, ap, sym, subst}
use Rattle.std.specs.Bool.{OnTrue, OnFalse}
use Rattle.std.specs.Ordering.{is_eq}
use Rattle.tree_model.specs.PathMap.{sub}
use Rattle.tree_model.proofs.Orders.{same_path}
use Rattle.rtdb_core.specs.Working.Moved.{AreKnown}
use Rattle.rtdb_core.specs.Working.Passages.{tree_before, tree_after}
use Rattle.rtdb_core.specs.declared.moved.Known.{Known}
use Rattle.rtdb_core.proofs.Finding.{known_so}
use Rattle.rtdb_core.proofs.moved.Moved.known_at.Goals as goal

so : (c : goal.Then-is_eq) → OnTrue c.in_ok-known.known.now.has_changed (sub c.args.self.now.1 c.args.place.now ≢ sub c.args.self.now.0 c.args.place.now) × OnFalse c.in_ok-known.known.now.has_changed (sub c.args.self.now.1 c.args.place.now ≡ sub c.args.self.now.0 c.args.place.now)
so c =
    let p = c.self.inside.passage.now in
    let it : Known = c.in_ok-known.known.now in
    let place = c.args.place.now in
    let look = c.in_ok-known.ensures.lookup in
    subst (λ trees. OnTrue it.has_changed (sub trees.1 place ≢ sub trees.0 place) × OnFalse it.has_changed (sub trees.1 place ≡ sub trees.0 place)) c.self.view_is
    (known_so (tree_before p) (tree_after p) c.deref.result.now c.args.index it place
    (subst (AreKnown (tree_before p) (tree_after p)) (sym c.deref.ensures.value) c.self.invariant.2)
    look.3.0
    look.1
    (same_path it.place.now place (ap is_eq (sym c.compare_keys.ensures) ∙ sym c.is_eq.ensures ∙ c.if-is_eq.true)))

pub returns-then-is_eq-clause-changed : goal.returns-then-is_eq-clause-changed
returns-then-is_eq-clause-changed c = (so c).0

pub returns-then-is_eq-clause-unchanged : goal.returns-then-is_eq-clause-unchanged
returns-then-is_eq-clause-unchanged c = (so c).1
