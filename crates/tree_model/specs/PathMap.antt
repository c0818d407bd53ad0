-- A map over paths: what stands where. A tree maps paths to primitives, and rules map patterns to what they state.
use Rattle.std.specs.Prelude.{ℕ, ◌==◌, List, [], ◌∷◌, map, length, max, Bool, Option, option_map, filter_map}
use Rattle.std.specs.List.{list_any}
use Rattle.std.specs.FinMap as map_of
use Rattle.tree_model.specs.Key.{Key}
use Rattle.tree_model.specs.Path.{Path, path_cmp, strip_prefix, is_prefix}

-- a finite map, in the order of paths
abbrev pub PathMap : Type 0 → Type 0
PathMap X = map_of.FinMap path_cmp X

-- what stands at a path
abbrev pub get : {X : Type 0} → PathMap X → Path → Option X
get t p = map_of.get t p

-- nothing stands anywhere
abbrev pub is_null : {X : Type 0} → PathMap X → Bool
is_null t = map_of.len t == 0

-- a pair whose path extends p, with p taken off
abbrev pub below : {X : Type 0} → Path → Path × X → Option (Path × X)
below p e = option_map (λ rest. (rest, e.1)) (strip_prefix p e.0)

-- what stands at and below p: the pairs of t whose path extends p, with p taken off
unfoldable pub sub : {X : Type 0} → PathMap X → Path → PathMap X
sub t p = map_of.from_entries (filter_map (below p) (map_of.entries t))

-- something stands at or below p: the path of some pair extends p
unfoldable pub exists : {X : Type 0} → PathMap X → Path → Bool
exists t p = list_any (is_prefix p) (map_of.keys t)

-- the greatest of some numbers, 0 where there is none
abbrev pub greatest : List ℕ → ℕ
greatest [] = 0
greatest (n ∷ ns) = max n (greatest ns)

-- the length of the longest path at which something stands
unfoldable pub depth : {X : Type 0} → PathMap X → ℕ
depth t = greatest (map length (map_of.keys t))

-- the same pairs, each path with the key k before it
abbrev pub under : {X : Type 0} → Key → List (Path × X) → List (Path × X)
under k es = map (λ e. (k ∷ e.0, e.1)) es
