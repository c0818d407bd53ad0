-- What undoes a change of a tree.
use Rattle.std.specs.Prelude.{◌≡◌, [], ◌∷◌, true}
use Rattle.tree_model.specs.PathMap.{exists}
use Rattle.tree_model.specs.Tree.{Tree}
use Rattle.tree_model.specs.Put.{Put, location, merged}

-- a write to a location that exists in the new tree, by which the old one is there again
pub record Undoes (undo : Put) (new old : Tree) : Type 0 where
  pub there : exists new (location undo) ≡ true
  pub back : merged new (undo ∷ []) ≡ old
