-- Patches: the children that are other ones, or gone, as a view borrows them.
use Rattle.std.specs.Prelude.{◌≡◌, ℕ, ◌-◌, ◌^◌, ◌&&◌, ◌||◌, min, List, map, length, Bool, not, is_some, nat_lt, nat_eq}
use Rattle.std.specs.List.{AllByRecursion}
use Rattle.tree_model.specs.Tree.{Tree, count, child_keys}
use Rattle.arena_snapshot.specs.Working.Change.{Change, changed, AreChanges, before}
use Rattle.arena_snapshot.specs.declared.view.Patch.{Patch}

-- the child that a patch puts
abbrev pub change_of : Patch → Change
change_of p = (p.key.now, p.child)

-- a patch knows how many children stand before its key: of the tree below, and of the tree that it is part of
pub record IsPlaced (old new : Tree) (p : Patch) : Type 0 where
  pub stored : p.stored_before ≡ before p.key.now old
  pub here : p.before ≡ before p.key.now new

-- the index i lies behind the patch: at it stands a child behind the patch's key
abbrev pub is_behind : ℕ → Patch → Bool
is_behind i p = nat_lt p.before i || (nat_eq p.before i && not (is_some p.child))

-- patches that may stand over a tree, each with its indices, and the width of what they make
pub record ArePatches (t : Tree) (ps : List Patch) (wide : ℕ) : Type 0 where
  pub changes : AreChanges t (map change_of ps)
  pub indices : AllByRecursion (IsPlaced t (changed t (map change_of ps))) ps
  pub width : wide ≡ length (child_keys (changed t (map change_of ps)))

-- the parts of a patched node, with its count up to the greatest `usize`
pub record IsPatched (t : Tree) (ps : List Patch) (many wide : ℕ) : Type 0 where
  pub patches : ArePatches t ps wide
  pub count : many ≡ min (count (changed t (map change_of ps))) (2 ^ 64 - 1)
