-- Computed from the lists of pairs.
use Rattle.std.proofs.Common.{[], ◌∷◌, List, true, false, codes, pos, negsuc, Some, refl}
use Rattle.std.specs.Ordering.{ordering_then}
use Rattle.tree_model.specs.Key.{Key}
use Rattle.tree_model.specs.Primitive.{truth, whole, words}
use Rattle.listeners.specs.Order.{list_cmp, value, place_cmp}
use Rattle.listeners.specs.Query.{by_value, by_child}
use Rattle.listeners.specs.Selection.{selection}
use Rattle.listeners.specs.Worked.{by}
use Rattle.listeners.proofs.WorkedSelections.{Pairs, pairs_below, place_listed, place-listed, place-below, valued-listed}
use Rattle.listeners.proofs.worked.what_queries_by_values_select.Goals as goal

abbrev pairs : Pairs
pairs = (codes "a" ∷ [], truth false) ∷ (codes "b" ∷ [], truth true) ∷ (codes "c" ∷ [], whole (negsuc 0)) ∷ (codes "d" ∷ [], words (codes "x")) ∷ (codes "e" ∷ codes "n" ∷ [], whole (pos 1)) ∷ (codes "f" ∷ [], words (codes "A")) ∷ []

abbrev cs : List (Key × Pairs)
cs = (codes "a", ([], truth false) ∷ []) ∷ (codes "b", ([], truth true) ∷ []) ∷ (codes "c", ([], whole (negsuc 0)) ∷ []) ∷ (codes "d", ([], words (codes "x")) ∷ []) ∷ (codes "e", (codes "n" ∷ [], whole (pos 1)) ∷ []) ∷ (codes "f", ([], words (codes "A")) ∷ []) ∷ []

abbrev tied : Pairs
tied = (codes "10" ∷ [], whole (pos 1)) ∷ (codes "9" ∷ [], whole (pos 1)) ∷ (codes "a" ∷ [], whole (pos 1)) ∷ (codes "b" ∷ [], whole (pos 1)) ∷ []

abbrev tied_cs : List (Key × Pairs)
tied_cs = (codes "10", ([], whole (pos 1)) ∷ []) ∷ (codes "9", ([], whole (pos 1)) ∷ []) ∷ (codes "a", ([], whole (pos 1)) ∷ []) ∷ (codes "b", ([], whole (pos 1)) ∷ []) ∷ []

pub returns-clause-between : goal.returns-clause-between
unfolding selection list_cmp place_cmp
returns-clause-between c = valued-listed (record (by by_value) { start_at = Some (truth true); end_at = Some (words (codes "B")) }) (λ (c : Key × Pairs). place_listed c.1) cs
    (λ x y i. ordering_then (place_cmp (place-listed x.1 i) (place-listed y.1 i)) (list_cmp x.0 y.0)) (λ x b i. place_cmp (place-listed x.1 i) (value b)) pairs ((codes "b" ∷ [], truth true) ∷ (codes "c" ∷ [], whole (negsuc 0)) ∷ (codes "f" ∷ [], words (codes "A")) ∷ []) refl refl

pub returns-clause-location_last : goal.returns-clause-location_last
unfolding selection list_cmp place_cmp
returns-clause-location_last c = valued-listed (record (by by_value) { start_at = Some (words (codes "x")) }) (λ (c : Key × Pairs). place_listed c.1) cs
    (λ x y i. ordering_then (place_cmp (place-listed x.1 i) (place-listed y.1 i)) (list_cmp x.0 y.0)) (λ x b i. place_cmp (place-listed x.1 i) (value b)) pairs ((codes "d" ∷ [], words (codes "x")) ∷ (codes "e" ∷ codes "n" ∷ [], whole (pos 1)) ∷ []) refl refl

pub returns-clause-below : goal.returns-clause-below
unfolding selection list_cmp place_cmp
returns-clause-below c = valued-listed (record (by (by_child (codes "n" ∷ []))) { equal_to = Some (whole (pos 1)) }) (λ (c : Key × Pairs). place_listed (pairs_below c.1 (codes "n" ∷ []))) cs
    (λ x y i. ordering_then (place_cmp (place-below x.1 (codes "n" ∷ []) i) (place-below y.1 (codes "n" ∷ []) i)) (list_cmp x.0 y.0)) (λ x b i. place_cmp (place-below x.1 (codes "n" ∷ []) i) (value b)) pairs ((codes "e" ∷ codes "n" ∷ [], whole (pos 1)) ∷ []) refl refl

pub returns-clause-nothing_below_first : goal.returns-clause-nothing_below_first
unfolding selection list_cmp place_cmp
returns-clause-nothing_below_first c = valued-listed (record (by (by_child (codes "n" ∷ []))) { limit_to_last = Some 2 }) (λ (c : Key × Pairs). place_listed (pairs_below c.1 (codes "n" ∷ []))) cs
    (λ x y i. ordering_then (place_cmp (place-below x.1 (codes "n" ∷ []) i) (place-below y.1 (codes "n" ∷ []) i)) (list_cmp x.0 y.0)) (λ x b i. place_cmp (place-below x.1 (codes "n" ∷ []) i) (value b)) pairs ((codes "e" ∷ codes "n" ∷ [], whole (pos 1)) ∷ (codes "f" ∷ [], words (codes "A")) ∷ []) refl refl

pub returns-clause-first_of_ties : goal.returns-clause-first_of_ties
unfolding selection list_cmp place_cmp
returns-clause-first_of_ties c = valued-listed (record (by by_value) { limit_to_first = Some 3 }) (λ (c : Key × Pairs). place_listed c.1) tied_cs
    (λ x y i. ordering_then (place_cmp (place-listed x.1 i) (place-listed y.1 i)) (list_cmp x.0 y.0)) (λ x b i. place_cmp (place-listed x.1 i) (value b)) tied ((codes "9" ∷ [], whole (pos 1)) ∷ (codes "10" ∷ [], whole (pos 1)) ∷ (codes "a" ∷ [], whole (pos 1)) ∷ []) refl refl

pub returns-clause-last_of_ties : goal.returns-clause-last_of_ties
unfolding selection list_cmp place_cmp
returns-clause-last_of_ties c = valued-listed (record (by by_value) { limit_to_last = Some 2 }) (λ (c : Key × Pairs). place_listed c.1) tied_cs
    (λ x y i. ordering_then (place_cmp (place-listed x.1 i) (place-listed y.1 i)) (list_cmp x.0 y.0)) (λ x b i. place_cmp (place-listed x.1 i) (value b)) tied ((codes "a" ∷ [], whole (pos 1)) ∷ (codes "b" ∷ [], whole (pos 1)) ∷ []) refl refl
