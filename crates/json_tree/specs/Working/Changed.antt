-- Where a put changes a tree.
use Rattle.std.specs.Prelude.{[], ◌∷◌, if◌then◌else◌, is_some}
use Rattle.std.specs.Option.{option_map_or}
use Rattle.tree_model.specs.Path.{Path}
use Rattle.tree_model.specs.PathMap.{get, sub}
use Rattle.tree_model.specs.Tree.{Tree, non_null}

-- the location where a put at a path changes the tree: the first on the way where a primitive stands or nothing does, or the path itself
abbrev pub changed_at : Tree → Path → Path
changed_at t [] = []
changed_at t (k ∷ p) = if is_some (get t []) then [] else k ∷ option_map_or (λ u. changed_at u p) (non_null (sub t (k ∷ []))) []
