-- Locations in their order, in groups that begin with one key.
use Rattle.std.specs.Prelude.{◌≡◌, ◌≢◌, ℕ, List, [], ◌∷◌, map, drop, Some}
use Rattle.std.specs.List.{AllByRecursion}
use Rattle.std.specs.Borrow.{Bor}
use Rattle.std.specs.declared.cmp.Ordering.TheVariants.{Less}
use Rattle.tree_model.specs.Key.{Key}
use Rattle.tree_model.specs.Path.{Path, path_cmp}
use Rattle.tree_model.specs.Tree.{first_key}

-- borrowed paths
abbrev pub paths : List (Bor Path) → List Path
paths borrowed = map (λ l. l.now) borrowed

-- what is left of each location, so many keys down
abbrev pub rests : ℕ → List Path → List Path
rests depth locations = map (λ l. drop depth l) locations

-- no location comes before one that stands before it
abbrev pub PathsAscend : List Path → Type 0
PathsAscend [] = Unit {0}
PathsAscend (l ∷ ls) = AllByRecursion (λ m. path_cmp m l ≢ Less) ls × PathsAscend ls

-- what is left of each of these locations, so many keys down, begins with k
abbrev pub AllBegin : Key → ℕ → List Path → Type 0
AllBegin k depth locations = AllByRecursion (λ l. first_key (drop depth l) ≡ Some k) locations

-- the first of these locations begins with k
abbrev pub NextIs : Key → List Path → Type 0
NextIs k [] = ⊥
NextIs k (l ∷ ls) = first_key l ≡ Some k

-- the first of these locations, if there is one, does not begin with k
abbrev pub NextIsNot : Key → List Path → Type 0
NextIsNot k [] = Unit {0}
NextIsNot k (l ∷ ls) = first_key l ≢ Some k
