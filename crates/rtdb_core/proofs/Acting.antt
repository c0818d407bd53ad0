-- The writes of an action, in the order of their locations, are those that it was made of.
use Rattle.std.proofs.Common.{◌≡◌, ◌≢◌, ◌||◌, ◌&&◌, ◌<◌, ◌+◌, ℕ, zero, suc, Bool, true, false, cond, T, List, [], ◌∷◌, length, get_or, append-nil, map, Option, Some, None, sym, ap, subst, ◌∙◌, refl, arith}
use Rattle.std.proofs.lemmas.Bool.{false≢true}
use Rattle.std.specs.FinMap as map_of
use Rattle.std.specs.FinMap.{find, is_sorted}
use Rattle.std.specs.FinMap.Entries.{below_all, same_entries}
use Rattle.std.specs.List.{list_any, list_all, Contains}
use Rattle.std.specs.List.Sorted.{IsPermutation, IsSortedBy}
use Rattle.std.specs.Ordering.{is_lt, ordering_reverse}
use Rattle.std.specs.declared.cmp.Ordering.{Ordering}
use Rattle.std.specs.declared.cmp.Ordering.TheVariants.{Less, Equal, Greater}
use Rattle.std.proofs.lemmas.List.Sorted.{IsPermutation-sym, Contains-permutation, length_permutation}
use Rattle.tree_model.specs.Draft.{Draft}
use Rattle.tree_model.specs.Path.{Path, path_cmp, is_prefix}
use Rattle.tree_model.specs.Put.{location, do_overlap, overlaps}
use Rattle.tree_model.specs.Write.{Write}
use Rattle.tree_model.proofs.Choices.{both_so, neither}
use Rattle.tree_model.proofs.Orders.{path_eq, same_path, path_eq-self, paths_total, exact_paths}
use Rattle.tree_model.proofs.Paths.{prefix-append}
use Rattle.tree_model.proofs.Writes.{apart_in_any_order}
use Rattle.rtdb_model.specs.Step.{action_of, writes_of, is_below}

abbrev behind_no : Write → Write → Bool
behind_no a b = is_lt (path_cmp (location a) (location b))

abbrev IsInOrder : List Write → Type 0
IsInOrder ws = IsSortedBy behind_no ws

-- ---- one write that does not overlap another

prefix_itself : (p : Path) → is_prefix p p ≡ true
prefix_itself [] = refl
prefix_itself (k ∷ p) = subst (λ q. is_prefix (k ∷ p) q ≡ true) (ap (λ q. k ∷ q) (append-nil p)) (prefix-append (k ∷ p) [])

-- at one place two writes overlap
apart_places : (w x : Write) → do_overlap w x ≡ false → location w ≡ location x → ⊥
apart_places w x apart same = false≢true (sym (neither _ _ apart).0 ∙ ap (is_prefix (location w)) (sym same) ∙ prefix_itself (location w))

none_at : (p : Write → Bool) (ws : List Write) (k : ℕ) (d : Write) → list_any p ws ≡ false → k < length ws → p (get_or ws k d) ≡ false
none_at p [] k d none low = absurd (omega arith)
none_at p (w ∷ ws) zero d none low = (neither _ _ none).0
none_at p (w ∷ ws) (suc k) d none low = none_at p ws k d (neither _ _ none).1 (omega arith)

-- ---- writes in order

below_less : (x y : Path) (es : List Write) → path_cmp x y ≡ Less → below_all path_cmp y es ≡ true → below_all path_cmp x es ≡ true
below_less x y [] less h = refl
below_less x y (e ∷ es) less h =
    let next = both_from (is_lt (path_cmp y e.0)) (below_all path_cmp y es) h in
    both_so _ _ (ap is_lt (paths_total.trans x y e.0 less (lt_less (path_cmp y e.0) next.0))) (below_less x y es less next.1)
  where
    both_from : (a b : Bool) → a && b ≡ true → (a ≡ true) × (b ≡ true)
    both_from true b h = (refl, h)
    both_from false b h = absurd (false≢true h)

    lt_less : (o : Ordering) → is_lt o ≡ true → o ≡ Less
    lt_less Less h = refl
    lt_less Equal h = absurd (false≢true h)
    lt_less Greater h = absurd (false≢true h)

-- not behind, and apart
comes_before : (w x : Write) → is_lt (path_cmp (location x) (location w)) ≡ false → do_overlap w x ≡ false → path_cmp (location w) (location x) ≡ Less
comes_before w x order apart =
    elim (path_cmp (location w) (location x)) as (λ o. path_cmp (location w) (location x) ≡ o → o ≡ Less) [
      | Less ↦ λ _. refl
      | Equal ↦ λ e. absurd (apart_places w x apart (exact_paths (location w) (location x) e))
      | Greater ↦ λ e. absurd (false≢true (sym order ∙ ap is_lt (paths_total.antisymm (location x) (location w) ∙ ap ordering_reverse e)))
    ] refl

-- writes in order are in order behind the first
later : (w : Write) (ws : List Write) → IsInOrder (w ∷ ws) → IsInOrder ws
later w ws order k d from low =
    let next : suc k + 1 ≡ suc (k + 1) = omega arith in
    subst (λ (m : ℕ). behind_no (get_or (w ∷ ws) m d) (get_or ws k d) ≡ false) next (order (suc k) d (omega arith) (omega arith))

in_order_sorted : (ws : List Write) → IsInOrder ws → overlaps ws ≡ false → is_sorted path_cmp ws ≡ true
in_order_sorted [] order apart = refl
in_order_sorted (w ∷ []) order apart = refl
in_order_sorted (w ∷ x ∷ ws) order apart =
    let parts = neither (list_any (do_overlap w) (x ∷ ws)) (overlaps (x ∷ ws)) apart in
    let rest = in_order_sorted (x ∷ ws) (later w (x ∷ ws) order) parts.1 in
    let less = comes_before w x (order 0 w (omega arith) (omega arith)) (neither _ _ parts.0).0 in
    both_so _ _ (both_so _ _ (ap is_lt less) (below_less (location w) (location x) ws less (first_of (below_all path_cmp (location x) ws) (is_sorted path_cmp ws) rest))) rest
  where
    first_of : (a b : Bool) → a && b ≡ true → a ≡ true
    first_of true b h = refl
    first_of false b h = absurd (false≢true h)

-- ---- what is found of writes in any order

found_among : (ws : List Write) (q : Path) (v : Draft) → find path_cmp q ws ≡ Some v → Contains ws (q, v)
found_among [] q v h = cc
found_among (w ∷ ws) q v h =
    elim (path_eq q w.0) as (λ b. path_eq q w.0 ≡ b → cond b (Some w.1) (find path_cmp q ws) ≡ Some v → Contains (w ∷ ws) (q, v)) [
      | true ↦ λ e is. (0, omega arith, (λ i. (sym (same_path q w.0 e) i, some_is w.1 v is i)))
      | false ↦ λ e is. let there = found_among ws q v is in (suc there.0, omega arith, there.2)
    ] refl h
  where
    some_is : (x y : Draft) → Some x ≡ Some y → x ≡ y
    some_is x y e = cc

among_found : (ws : List Write) (q : Path) (v : Draft) (k : ℕ) → overlaps ws ≡ false → k < length ws → get_or ws k (q, v) ≡ (q, v) → find path_cmp q ws ≡ Some v
among_found [] q v k apart low is = absurd (omega arith)
among_found (w ∷ ws) q v zero apart low is =
    (λ i. cond (path_eq q (ap location is i)) (Some w.1) (find path_cmp q ws))
    ∙ ap (λ b. cond b (Some w.1) (find path_cmp q ws)) (path_eq-self q)
    ∙ ap (λ (x : Write). Some x.1) is
among_found (w ∷ ws) q v (suc k) apart low is =
    let parts = neither (list_any (do_overlap w) ws) (overlaps ws) apart in
    elim (path_eq q w.0) as (λ b. path_eq q w.0 ≡ b → cond b (Some w.1) (find path_cmp q ws) ≡ Some v) [
      | true ↦ λ e. absurd (apart_places w (q, v) (ap (do_overlap w) (sym is) ∙ none_at (do_overlap w) ws k (q, v) parts.0 (omega arith)) (sym (same_path q w.0 e)))
      | false ↦ λ e. among_found ws q v k parts.1 (omega arith) is
    ] refl

moved_found : (ws xs : List Write) (q : Path) (v : Draft) → IsPermutation ws xs → overlaps xs ≡ false → find path_cmp q ws ≡ Some v → find path_cmp q xs ≡ Some v
moved_found ws xs q v p apart h =
    let there = Contains-permutation ws xs (q, v) p (found_among ws q v h) in
    among_found xs q v there.0 apart there.1 there.2

same_found : (ws xs : List Write) (q : Path) → IsPermutation ws xs → overlaps ws ≡ false → find path_cmp q ws ≡ find path_cmp q xs
same_found ws xs q p apart =
    elim (find path_cmp q ws) as (λ o. find path_cmp q ws ≡ o → o ≡ find path_cmp q xs) [
      | None ↦ λ none. elim (find path_cmp q xs) as (λ o. find path_cmp q xs ≡ o → None ≡ o) [
        | None ↦ λ _. refl
        | (Some v) ↦ λ e. let back = moved_found xs ws q v (IsPermutation-sym ws xs p) apart e in cc
      ] refl
      | (Some v) ↦ λ e. sym (moved_found ws xs q v p (apart_in_any_order ws xs p apart) e)
    ] refl

-- ---- the writes of an action

pub writes_are : (ws xs : List Write) → overlaps ws ≡ false → IsPermutation ws xs → IsSortedBy (λ a b. is_lt (path_cmp (location a) (location b))) xs → xs ≡ writes_of (action_of ws)
writes_are ws xs apart p order =
    same_entries path_cmp paths_total exact_paths xs (map_of.entries (action_of ws))
    (subst T (sym (in_order_sorted xs order (apart_in_any_order ws xs p apart))) tt)
    (map_of.entries_sorted (action_of ws))
    (λ q. sym (same_found ws xs q p apart) ∙ sym (map_of.get-from_entries paths_total ws q) ∙ map_of.get-entries (action_of ws) q)

-- all of them are at a path or below it
pub all_below : (path : Path) (ws : List Write) → list_all (λ w. is_prefix path (location w)) ws ≡ list_all (is_prefix path) (map (λ e. e.0) ws)
all_below path [] = refl
all_below path (w ∷ ws) = ap (λ b. is_prefix path (location w) && b) (all_below path ws)

-- ---- that there is a write

pub none_by_length : (ws : List Write) → length ws ≡ zero → ws ≡ []
none_by_length [] none = refl
none_by_length (w ∷ ws) none = absurd (omega (arith, none))

pub some_kept : (ws xs : List Write) → IsPermutation ws xs → ws ≢ [] → xs ≢ []
some_kept ws xs p some none = some (none_by_length ws (sym (length_permutation ws xs p) ∙ ap length none))
