-- What holds of the tree that a view is seen as.
use Rattle.std.proofs.Common.{◌≡◌, [], map, None}
use Rattle.std.specs.Borrow.{Bor}
use Rattle.tree_model.specs.PathMap.{get}
use Rattle.arena_snapshot.specs.View.{node_or_null, tree_of, IsKind}
use Rattle.arena_snapshot.specs.Working.Changing.{get-changed-root}
use Rattle.arena_snapshot.specs.Working.Patches.{change_of}
use Rattle.arena_snapshot.specs.declared.view.ViewKind.TheVariants.{Patched}
use Rattle.arena_snapshot.specs.declared.view.Patched.{Patched as PatchedNode}

-- no primitive stands at the root of a patched node
pub root_of_patched : (node : Bor PatchedNode) → IsKind (Patched node) → get (tree_of (Patched node)) [] ≡ None
root_of_patched node h = get-changed-root (node_or_null node.now.base) (map change_of node.now.patches.now) h.patches.changes.root
