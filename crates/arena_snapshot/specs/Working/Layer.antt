-- A layer: patches over a tree, with the sizes of what they make.
use Rattle.std.specs.Prelude.{◌≡◌, ◌+◌, ◌<◌, ◌^◌, List, map}
use Rattle.tree_model.specs.Tree.{Tree}
use Rattle.arena_snapshot.specs.Working.Change.{changed, total, locations}
use Rattle.arena_snapshot.specs.Working.Patches.{change_of, ArePatches}
use Rattle.arena_snapshot.specs.declared.sizes.Sizes.{Sizes}
use Rattle.arena_snapshot.specs.declared.view.Patch.{Patch}

-- patches that may stand over the tree, and beside them how many locations and how many children they make, the root counted also where no child is left
pub record IsLayer (t : Tree) (ps : List Patch) (sizes : Sizes) : Type 0 where
  pub patches : ArePatches t ps sizes.width
  pub fits : sizes.count < 2 ^ 64
  pub count : sizes.count ≡ 1 + total locations (changed t (map change_of ps))
