-- What a binary search finds among children in order.
use Rattle.std.proofs.Common.{◌≡◌, ◌≢◌, ℕ, zero, suc, ◌+◌, ◌<◌, ◌≤◌, Bool, true, false, cond, List, [], ◌∷◌, map, length, get_or, Some, None, Result, Ok, Err, MatchResult, sym, ap, ◌∙◌, inl, inr, refl, add-one, arith}
use Rattle.std.specs.List.{count_by}
use Rattle.std.specs.declared.cmp.Ordering.{Ordering}
use Rattle.std.specs.declared.cmp.Ordering.TheVariants.{Less, Equal, Greater}
use Rattle.std.specs.Ordering.{is_lt, eq_by_cmp, ordering_reverse}
use Rattle.std.specs.Cmp.{tied_itself, first_so, second_so}
use Rattle.std.specs.FinMap.{find, is_sorted}
use Rattle.std.specs.FinMap.Entries.{below_all}
use Rattle.std.specs.List.Sorted.{IsSortedBy, IsSearchInRange, IsBinarySearchResult}
use Rattle.std.proofs.lemmas.Bool.{cases_lt}
use Rattle.std.proofs.lemmas.Map.Text.{is_eq-slice_cmp}
use Rattle.std.proofs.lemmas.List.Sorted.{searchable_from_sorted}
use Rattle.std.proofs.lemmas.List.Sums.{sum_by-cons}
use Rattle.tree_model.specs.Key.{Key, key_cmp}
use Rattle.tree_model.proofs.Orders.{keys_total, exact_keys, tied_key, bytes_eq-self}
use Rattle.tree_model.proofs.Grafts.{find_beyond}

key_eq-self : (k : Key) → eq_by_cmp key_cmp k k ≡ true
key_eq-self k = is_eq-slice_cmp k k ∙ bytes_eq-self k

not_less : (r : Ordering) → is_lt r ≡ true → is_lt (ordering_reverse r) ≡ false
not_less Less h = refl
not_less Equal h = cc
not_less Greater h = cc

below_next : {X : Type 0} (c : Key × X) (cs : List (Key × X)) (d : Key × X) → 0 < length cs → below_all key_cmp c.0 cs ≡ true → is_lt (key_cmp c.0 (get_or cs 0 d).0) ≡ true
below_next c [] d h below = absurd (omega arith)
below_next c (e ∷ cs) d h below = first_so _ _ below

sorted_next : {X : Type 0} (cs : List (Key × X)) → is_sorted key_cmp cs ≡ true → (k : ℕ) (d : Key × X) → suc k < length cs → is_lt (key_cmp (get_or cs (suc k) d).0 (get_or cs k d).0) ≡ false
sorted_next [] h k d high = absurd (omega arith)
sorted_next {X} (c ∷ cs) h zero d high =
    let e : Key × X = get_or cs 0 d in
    ap is_lt (keys_total.antisymm e.0 c.0) ∙ not_less (key_cmp c.0 e.0) (below_next c cs d (omega arith) (first_so _ _ h))
sorted_next (c ∷ cs) h (suc k) d high = sorted_next cs (second_so _ _ h) k d (omega arith)

-- children in order are sorted, as a search asks
pub sorted_by_key : {X : Type 0} (cs : List (Key × X)) → is_sorted key_cmp cs ≡ true → IsSortedBy (λ a b. is_lt (key_cmp a.0 b.0)) cs
sorted_by_key cs h k d low high = rw add-one (sorted_next cs h k d (omega arith))

-- a child is found under its key
pub find_at : {X : Type 0} (name : Key) (cs : List (Key × X)) (i : ℕ) (d : Key × X) → is_sorted key_cmp cs ≡ true → i < length cs → key_cmp (get_or cs i d).0 name ≡ Equal → find key_cmp name cs ≡ Some (get_or cs i d).1
find_at name [] i d s h e = absurd (omega arith)
find_at name (c ∷ cs) zero d s h e =
    let same : c.0 ≡ name = exact_keys c.0 name e in
    ap (λ b. cond b (Some c.1) (find key_cmp name cs)) (ap (λ k. eq_by_cmp key_cmp name k) same ∙ key_eq-self name)
find_at name (c ∷ cs) (suc i) d s h e =
    let later : find key_cmp name cs ≡ Some (get_or cs i d).1 = find_at name cs i d (second_so _ _ s) (omega arith) e in
    elim (eq_by_cmp key_cmp name c.0) as (λ b. eq_by_cmp key_cmp name c.0 ≡ b → cond b (Some c.1) (find key_cmp name cs) ≡ Some (get_or cs i d).1) [
      | true ↦ λ is. let none : find key_cmp name cs ≡ None = find_beyond name c cs s (sym (is_eq-slice_cmp name c.0) ∙ is) in cc
      | false ↦ λ _. later
    ] refl

-- a key that no child has is not found
pub find_none : {X : Type 0} (name : Key) (cs : List (Key × X)) → ((j : ℕ) (d : Key × X) → j < length cs → key_cmp (get_or cs j d).0 name ≢ Equal) → find key_cmp name cs ≡ None
find_none name [] h = refl
find_none name (c ∷ cs) h =
    elim (eq_by_cmp key_cmp name c.0) as (λ b. eq_by_cmp key_cmp name c.0 ≡ b → cond b (Some c.1) (find key_cmp name cs) ≡ None) [
      | true ↦ λ is. absurd (h 0 c (omega arith) (ap (λ k. key_cmp k name) (sym (tied_key name c.0 is)) ∙ tied_itself keys_total name))
      | false ↦ λ _. find_none name cs (λ j d within. h (suc j) d (omega arith))
    ] refl

-- what a binary search for a name answers
pub searched : {X : Type 0} (name : Key) (cs : List (Key × X)) (r : Result ℕ ℕ) → is_sorted key_cmp cs ≡ true → IsSearchInRange r (length cs) → IsBinarySearchResult (λ c. key_cmp c.0 name) cs r
    → MatchResult r (λ i. (d : Key × X) → find key_cmp name cs ≡ Some (get_or cs i d).1) (λ _. find key_cmp name cs ≡ None)
searched name cs (Ok i) s within is = λ d. find_at name cs i d s within (is d)
searched name cs (Err i) s within parted =
    let parts = parted (searchable_from_sorted keys_total (λ c. c.0) cs name (sorted_by_key cs s)) in
    find_none name cs (λ j d inside tied.
    elim (cases_lt j i) [
      | inl before ↦ let less = parts.0 j d (omega arith) before in cc
      | inr after ↦ let more = parts.1 j d after inside in cc
    ])

-- ---- how many children stand before a key

abbrev keys_of : {X : Type 0} → List (Key × X) → List Key
keys_of cs = map (λ c. c.0) cs

-- the key stands before the name
abbrev is_low : Key → Key → Bool
is_low name k = is_lt (key_cmp k name)

abbrev one_if : Bool → ℕ
one_if b = cond b 1 0

one_low : (name k : Key) (ks : List Key) → is_low name k ≡ true → count_by (is_low name) (k ∷ ks) ≡ count_by (is_low name) ks + 1
one_low name k ks low = let one : one_if (is_low name k) ≡ 1 = ap one_if low in omega (arith, sum_by-cons (λ l. one_if (is_low name l)) k ks, one)

none_low : (name k : Key) (ks : List Key) → is_low name k ≡ false → count_by (is_low name) (k ∷ ks) ≡ count_by (is_low name) ks
none_low name k ks high = let none : one_if (is_low name k) ≡ 0 = ap one_if high in omega (arith, sum_by-cons (λ l. one_if (is_low name l)) k ks, none)

-- none of those behind a name stands before it
none_behind : {X : Type 0} (name : Key) (cs : List (Key × X)) → below_all key_cmp name cs ≡ true → count_by (is_low name) (keys_of cs) ≡ 0
none_behind name [] below = refl
none_behind name (c ∷ cs) below =
    let high : is_low name c.0 ≡ false = ap is_lt (keys_total.antisymm c.0 name) ∙ not_less (key_cmp name c.0) (first_so _ _ below) in
    none_low name c.0 (keys_of cs) high ∙ none_behind name cs (second_so _ _ below)

above_first : {X : Type 0} (name : Key) (cs : List (Key × X)) (i : ℕ) (d : Key × X) → below_all key_cmp name cs ≡ true → i < length cs → is_lt (key_cmp name (get_or cs i d).0) ≡ true
above_first name [] i d below within = absurd (omega arith)
above_first name (c ∷ cs) zero d below within = first_so _ _ below
above_first name (c ∷ cs) (suc i) d below within = above_first name cs i d (second_so _ _ below) (omega arith)

-- as many stand before a child's key as its index says
rank_at : {X : Type 0} (cs : List (Key × X)) (i : ℕ) (d : Key × X) → is_sorted key_cmp cs ≡ true → i < length cs → count_by (is_low (get_or cs i d).0) (keys_of cs) ≡ i
rank_at [] i d s within = absurd (omega arith)
rank_at (c ∷ cs) zero d s within = none_low c.0 c.0 (keys_of cs) (ap is_lt (tied_itself keys_total c.0)) ∙ none_behind c.0 cs (first_so _ _ s)
rank_at (c ∷ cs) (suc i) d s within =
    let name : Key = (get_or cs i d).0 in
    omega (arith, one_low name c.0 (keys_of cs) (above_first c.0 cs i d (first_so _ _ s) (omega arith)), rank_at cs i d (second_so _ _ s) (omega arith))

-- and before any name as many as the point says that parts what stands before it from the rest
rank_parted : {X : Type 0} (name : Key) (cs : List (Key × X)) (i : ℕ) → i ≤ length cs → ((j : ℕ) (d : Key × X) → j < i → is_low name (get_or cs j d).0 ≡ true)
    → ((j : ℕ) (d : Key × X) → i ≤ j → j < length cs → is_low name (get_or cs j d).0 ≡ false) → count_by (is_low name) (keys_of cs) ≡ i
rank_parted name [] i within low high = omega arith
rank_parted name (c ∷ cs) zero within low high =
    none_low name c.0 (keys_of cs) (high 0 c (omega arith) (omega arith)) ∙ rank_parted name cs 0 (omega arith) (λ j d less. absurd (omega arith)) (λ j d more inside. high (suc j) d (omega arith) (omega arith))
rank_parted name (c ∷ cs) (suc i) within low high =
    omega (
      arith,
      one_low name c.0 (keys_of cs) (low 0 c (omega arith)),
      rank_parted name cs i (omega arith) (λ j d less. low (suc j) d (omega arith)) (λ j d more inside. high (suc j) d (omega arith) (omega arith)),
    )

-- where a binary search for a name ends
pub ranked : {X : Type 0} (name : Key) (cs : List (Key × X)) (r : Result ℕ ℕ) → is_sorted key_cmp cs ≡ true → IsSearchInRange r (length cs) → IsBinarySearchResult (λ c. key_cmp c.0 name) cs r
    → MatchResult r (λ i. Key × X → count_by (is_low name) (keys_of cs) ≡ i) (λ i. count_by (is_low name) (keys_of cs) ≡ i)
ranked name cs (Ok i) s within is = λ d. ap (λ k. count_by (is_low k) (keys_of cs)) (sym (exact_keys (get_or cs i d).0 name (is d))) ∙ rank_at cs i d s within
ranked name cs (Err i) s within parted =
    let parts = parted (searchable_from_sorted keys_total (λ c. c.0) cs name (sorted_by_key cs s)) in
    rank_parted name cs i within (λ j d less. ap is_lt (parts.0 j d (omega arith) less)) (λ j d more inside. ap is_lt (parts.1 j d more inside))
