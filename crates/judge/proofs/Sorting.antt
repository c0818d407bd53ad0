-- What a sort of locations leaves.
use Rattle.std.proofs.Common.{◌≡◌, ◌≢◌, ℕ, suc, ◌≤◌, ◌<◌, false, List, [], ◌∷◌, length, get_or, arith}
use Rattle.std.specs.Borrow.{Bor}
use Rattle.std.specs.List.{AllByRecursion}
use Rattle.std.specs.declared.cmp.Ordering.{Ordering}
use Rattle.std.specs.declared.cmp.Ordering.TheVariants.{Less, Equal, Greater}
use Rattle.std.specs.Ordering.{is_lt}
use Rattle.tree_model.specs.Path.{Path, path_cmp}
use Rattle.judge.specs.Working.Locations.{paths, PathsAscend}

later_ones : (l : Bor Path) (ls : List (Bor Path)) → ((j : ℕ) (d : Bor Path) → j < length ls → is_lt (path_cmp (get_or ls j d).now l.now) ≡ false) → AllByRecursion (λ m. path_cmp m l.now ≢ Less) (paths ls)
later_ones l [] h = tt
later_ones l (x ∷ ls) h = (not_less (path_cmp x.now l.now) (h 0 x (omega arith)), later_ones l ls (λ j d within. h (suc j) d (omega arith)))
  where
    not_less : (o : Ordering) → is_lt o ≡ false → o ≢ Less
    not_less Less e = λ _. cc
    not_less Equal e = λ g. cc
    not_less Greater e = λ g. cc

pub paths_ascend : (ls : List (Bor Path)) → ((i j : ℕ) (d : Bor Path) → i ≤ j → j < length ls → is_lt (path_cmp (get_or ls j d).now (get_or ls i d).now) ≡ false) → PathsAscend (paths ls)
paths_ascend [] h = tt
paths_ascend (l ∷ ls) h = (later_ones l ls (λ j d within. h 0 (suc j) d (omega arith) (omega arith)), paths_ascend ls (λ i j d low within. h (suc i) (suc j) d (omega arith) (omega arith)))
