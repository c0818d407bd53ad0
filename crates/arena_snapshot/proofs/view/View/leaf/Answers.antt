use Rattle.std.proofs.Common.{[], map, sym, ap, ◌∙◌, subst}
use Rattle.tree_model.specs.PathMap.{get}
use Rattle.arena_snapshot.specs.View.{node_or_null, tree_of, IsKind}
use Rattle.arena_snapshot.specs.Working.Changing.{get-changed-root}
use Rattle.arena_snapshot.specs.Working.Patches.{change_of}
use Rattle.arena_snapshot.proofs.view.View.leaf.Goals as goal

pub returns-in-Patched : goal.returns-in-Patched
returns-in-Patched c =
    let node = c.in-Patched.field-0 in
    let inside = subst IsKind c.in-Patched.is c.self.invariant.parts in
    sym (get-changed-root (node_or_null node.now.base) (map change_of node.now.patches.now) inside.patches.changes.root) ∙ ap (λ k. get (tree_of k) []) (sym c.in-Patched.is) ∙ ap (λ t. get t []) c.self.view_is
