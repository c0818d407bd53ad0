-- What stands at a key of a view.
use Rattle.std.specs.Prelude.{Option, Some, None}
use Rattle.tree_model.specs.Tree.{Tree}
use Rattle.arena_snapshot.specs.View.{tree_of, IsView}
use Rattle.arena_snapshot.specs.declared.view.ViewKind.TheVariants as kinds
use Rattle.arena_snapshot.specs.declared.view.Standing.{Standing}
use Rattle.arena_snapshot.specs.declared.view.Standing.TheVariants as stands

-- the tree that stands there, if any does
abbrev pub standing_of : Standing → Option Tree
standing_of stands.Nothing = None
standing_of (stands.Stored node) = Some (tree_of (kinds.Stored node))
standing_of (stands.Patched node) = Some (tree_of (kinds.Patched node))

-- it can be a view
abbrev pub IsStanding : Standing → Type 0
IsStanding stands.Nothing = Unit {0}
IsStanding (stands.Stored node) = IsView (kinds.Stored node)
IsStanding (stands.Patched node) = IsView (kinds.Patched node)
