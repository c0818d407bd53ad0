-- What writes put at a moment, below the level that they are handled at.
use Rattle.std.specs.Prelude.{◌≡◌, ℕ, ◌<◌, List, ◌∷◌, map, length, drop, false, slice_index_or}
use Rattle.std.specs.Borrow.{Bor}
use Rattle.std.specs.Ordering.{is_lt}
use Rattle.tree_model.specs.Key.{Key}
use Rattle.tree_model.specs.Path.{path_cmp}
use Rattle.tree_model.specs.Put.{Put, location, written}
use Rattle.tree_model.specs.Draft.{tree_at}
use Rattle.tree_model.specs.Write.{Write}

-- what a write puts at this moment, without the first n keys of its location
abbrev pub left : ℕ → ℕ → Bor Write → Put
left now n w = (drop n (location w.now), tree_at now (written w.now))

-- the same, each with the key k before its location
abbrev pub raised : Key → List Put → List Put
raised k ws = map (λ (w : Put). (k ∷ location w, written w)) ws

-- no location comes before an earlier one
abbrev pub Ascend : List Put → Type 0
Ascend ws = (i j : ℕ) (d : Put) → i < j → j < length ws → is_lt (path_cmp (location (slice_index_or ws j d)) (location (slice_index_or ws i d))) ≡ false
