-- What a view is seen as, and what holds of its parts.
use Rattle.std.specs.Prelude.{◌≢◌, map, Option, Some, None}
use Rattle.std.specs.Borrow.{Bor}
use Rattle.tree_model.specs.Tree.{Tree, null, IsLawful}
use Rattle.arena_snapshot.specs.Working.Change.{changed}
use Rattle.arena_snapshot.specs.Working.Patches.{change_of, IsPatched}
use Rattle.arena_snapshot.specs.declared.view.ViewKind.{ViewKind}
use Rattle.arena_snapshot.specs.declared.view.ViewKind.TheVariants.{Stored, Patched}

-- the tree of an optional borrowed node: none is null
abbrev pub node_or_null : Option (Bor Tree) → Tree
node_or_null None = null
node_or_null (Some node) = node.now

-- the tree that a view shows: a stored one, or a stored one with changes
abbrev pub tree_of : ViewKind → Tree
tree_of (Stored node) = node.now
tree_of (Patched node) = changed (node_or_null node.now.base) (map change_of node.now.patches.now)

-- a stored node, or patches that may stand over one
abbrev pub IsKind : ViewKind → Type 0
IsKind (Stored node) = Unit {0}
IsKind (Patched node) = IsPatched (node_or_null node.now.base) node.now.patches.now node.now.count node.now.width

-- a view's tree is not null, and lawful
pub record IsView (kind : ViewKind) : Type 0 where
  pub parts : IsKind kind
  pub some : tree_of kind ≢ null
  pub lawful : IsLawful (tree_of kind)
