-- How changes that were made are undone, the last first.
use Rattle.std.specs.Prelude.{◌≡◌, List, [], ◌∷◌, ◌++◌, true}
use Rattle.tree_model.specs.PathMap.{exists}
use Rattle.tree_model.specs.Tree.{Tree}
use Rattle.tree_model.specs.Put.{Put, location, merged}
use Rattle.json_tree.specs.Undo.{Undoes}

-- the tree after these were undone, one after another
abbrev pub rewound : List Put → Tree → Tree
rewound [] t = t
rewound (u ∷ us) t = rewound us (merged t (u ∷ []))

-- each is of a location that exists when its turn comes
abbrev pub CanRewind : List Put → Tree → Type 0
CanRewind [] t = Unit {0}
CanRewind (u ∷ us) t = (exists t (location u) ≡ true) × CanRewind us (merged t (u ∷ []))

-- one change more was made, and what undoes it was added
pub record IsOneMore (old new : List Put) (before after : Tree) : Type 0 where
  pub undo : Put
  pub added : new ≡ old ++ undo ∷ []
  pub undoes : Undoes undo after before
