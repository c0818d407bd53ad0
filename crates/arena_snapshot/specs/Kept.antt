-- A tree of which only some children are kept.
use Rattle.std.specs.Prelude.{ℕ, ◌<◌, List, length, slice_index_or}
use Rattle.std.specs.List.{filter_map, slice_get}
use Rattle.std.specs.FinMap as map_of
use Rattle.tree_model.specs.Tree.{Tree, children}
use Rattle.tree_model.specs.Children.{graft}

-- the tree of the children at these indices, where the first child stands at 0. (Guide "Work with Lists of Data", filtering data.)
unfoldable pub kept : Tree → List ℕ → Tree
kept t indices = graft (filter_map (slice_get (map_of.entries (children t))) indices)

-- each index is before the later ones
abbrev pub StrictlyAscend : List ℕ → Type 0
StrictlyAscend indices = (i j d : ℕ) → i < j → j < length indices → slice_index_or indices i d < slice_index_or indices j d
