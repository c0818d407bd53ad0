-- What is put where: a location and what is put there, and the tree that several of these make together.
use Rattle.std.specs.Prelude.{◌≡◌, ◌+◌, ◌≤◌, ◌&&◌, ◌||◌, ◌++◌, List, [], ◌∷◌, map, length, Bool, true, false, not, Option, Some, option_map, filter, filter_map, flat_map}
use Rattle.std.specs.List.{list_any, Contains}
use Rattle.std.specs.FinMap as map_of
use Rattle.tree_model.specs.declared.limits.TheConstants.{MAX_DEPTH}
use Rattle.tree_model.specs.Key.{Key}
use Rattle.tree_model.specs.Path.{Path, strip_prefix, is_prefix, is_proper_prefix, is_path}
use Rattle.tree_model.specs.Primitive.{Primitive}
use Rattle.tree_model.specs.PathMap.{PathMap, get, is_null, depth}
use Rattle.tree_model.specs.Tree.{Tree, IsLawful}

-- a tree that is put at a location
abbrev pub Put : Type 0
Put = Path × Tree

-- where it is put
abbrev pub location : {Y : Type 0} → Path × Y → Path
location w = w.0

-- what is put there; null removes
abbrev pub written : {Y : Type 0} → Path × Y → Y
written w = w.1

-- one location is at or above the other
abbrev pub do_overlap : {Y : Type 0} → Path × Y → Path × Y → Bool
do_overlap w x = is_prefix (location w) (location x) || is_prefix (location x) (location w)

-- some location is at or above another of the same update. (This project's profile.)
abbrev pub overlaps : {Y : Type 0} → List (Path × Y) → Bool
overlaps [] = false
overlaps (w ∷ ws) = list_any (do_overlap w) ws || overlaps ws

-- q extends the location
abbrev pub is_replaced : {Y : Type 0} → Path → Path × Y → Bool
is_replaced q w = is_prefix (location w) q

-- q lies properly above the location, and what is put there is not null
abbrev pub is_covered : {X : Type 0} → Path → Path × PathMap X → Bool
is_covered q w = is_proper_prefix q (location w) && not (is_null (written w))

-- what stands at q stays: nothing that is put replaces it or covers it
abbrev pub stays : {X : Type 0} → List (Path × PathMap X) → Path → Bool
stays ws q = not (list_any (is_replaced q) ws) && not (list_any (is_covered q) ws)

-- the pairs that are put: those of the tree, below its location
abbrev pub placed : Put → List (Path × Primitive)
placed w = map (λ e. (location w ++ e.0, e.1)) (map_of.entries (written w))

-- the tree in which all these are put: the pairs of t that stay, and those of each tree that is put
unfoldable pub merged : Tree → List Put → Tree
merged t ws = map_of.from_entries (filter (λ e. stays ws e.0) (map_of.entries t) ++ flat_map placed ws)

-- v is put at q: something that is put has v at what is left of q below its location
pub record Puts {X : Type 0} (ws : List (Path × PathMap X)) (q : Path) (v : X) : Type 0 where
  pub write : Path × PathMap X
  pub among : Contains ws write
  pub rest : Path
  pub at : q ≡ location write ++ rest
  pub is : get (written write) rest ≡ Some v

-- what is left below the key k of what is put, where its location begins with k
abbrev pub put_below : {Y : Type 0} → Key → Path × Y → Option (Path × Y)
put_below k w = option_map (λ rest. (rest, written w)) (strip_prefix (k ∷ []) (location w))

-- what is put below the key k, each with k taken off its location
abbrev pub puts_below : {Y : Type 0} → Key → List (Path × Y) → List (Path × Y)
puts_below k ws = filter_map (put_below k) ws

-- a lawful put: a lawful path, and below it a lawful tree, together at most 32 keys deep
pub record IsLawfulPut (w : Put) : Type 0 where
  pub path : is_path (location w) ≡ true
  pub tree : IsLawful (written w)
  pub depth : length (location w) + depth (written w) ≤ MAX_DEPTH
