-- A view that was laid over the stored tree is the proposed tree.
use Rattle.std.proofs.Common.{◌≡◌, ℕ, cond, List, Some, None, Option, sym, ap, ◌∙◌, refl}
use Rattle.std.specs.Prelude.{option_map}
use Rattle.std.specs.Borrow.{Bor}
use Rattle.tree_model.specs.Tree.{Tree, non_null}
use Rattle.tree_model.specs.Write.{Write, proposed}
use Rattle.tree_model.proofs.Existence.{by_null}
use Rattle.path_capture.specs.Write.{tree_or_null}
use Rattle.arena_snapshot.specs.View.{node_or_null}

pub tree_or_null-non_null : (t : Tree) → tree_or_null (non_null t) ≡ t
unfolding non_null
tree_or_null-non_null t = by_null (λ b. tree_or_null (cond b None (Some t)) ≡ t) t (λ e. sym e) (λ _. refl)

node_is_tree : (base : Option (Bor Tree)) → node_or_null base ≡ tree_or_null (option_map (λ (node : Bor Tree). node.now) base)
node_is_tree None = refl
node_is_tree (Some node) = refl

pub is_proposed : (base : Option (Bor Tree)) (old coming : Option Tree) (ws : List Write) (now : ℕ) → old ≡ option_map (λ (node : Bor Tree). node.now) base → coming ≡ non_null (proposed (node_or_null base) ws now) → tree_or_null coming ≡ proposed (tree_or_null old) ws now
is_proposed base old coming ws now stored laid =
    ap tree_or_null laid ∙ tree_or_null-non_null (proposed (node_or_null base) ws now)
    ∙ ap (λ (t : Tree). proposed t ws now) (node_is_tree base ∙ ap tree_or_null (sym stored))
