-- Children in order, of which one is set, inserted or taken out.
use Rattle.std.proofs.Common.{◌≡◌, ◌≢◌, ℕ, zero, suc, ◌-◌, ◌<◌, ◌≤◌, true, false, cond, ◌&&◌, List, [], ◌∷◌, length, get_or, set, take, drop, Some, None, Err, sym, ap, ◌∙◌, refl, arith}
use Rattle.std.specs.declared.cmp.Ordering.{Ordering}
use Rattle.std.specs.declared.cmp.Ordering.TheVariants.{Less, Equal, Greater}
use Rattle.std.specs.Ordering.{is_lt, eq_by_cmp, ordering_reverse}
use Rattle.std.specs.Cmp.{tied_itself, first_so, second_so}
use Rattle.std.specs.FinMap.{find, is_sorted}
use Rattle.std.specs.FinMap.Entries.{below_all}
use Rattle.std.specs.List.{AllByRecursion, insert, remove}
use Rattle.std.specs.List.Sorted.{IsBinarySearchResult}
use Rattle.std.specs.Str.{bytes_eq}
use Rattle.std.proofs.lemmas.List.{get_or-set_same, length-set}
use Rattle.std.proofs.lemmas.List.Edits.{length-insert, get_or-insert_at}
use Rattle.std.proofs.lemmas.List.Sorted.{searchable_from_sorted}
use Rattle.std.proofs.lemmas.Map.Text.{is_eq-slice_cmp}
use Rattle.tree_model.specs.Key.{Key, key_cmp}
use Rattle.tree_model.proofs.Choices.{both_so}
use Rattle.tree_model.proofs.Orders.{keys_total, bytes_eq-self}
use Rattle.tree_model.proofs.Grafts.{find_beyond}
use Rattle.json_tree.proofs.Places.{find_at, sorted_by_key}

-- a test of a key that is another one fails
other_key : {X : Type 0} (l k : Key) (a b : X) → bytes_eq l k ≡ false → cond (eq_by_cmp key_cmp l k) a b ≡ b
other_key l k a b other = ap (λ e. cond e a b) (is_eq-slice_cmp l k ∙ other)

same_key_at : {X : Type 0} (cs : List (Key × X)) (i : ℕ) (d : Key × X) (name : Key) → (get_or cs i d).0 ≡ name → key_cmp (get_or cs i d).0 name ≡ Equal
same_key_at cs i d name is = ap (λ k. key_cmp k name) is ∙ tied_itself keys_total name

-- ---- the value of a child is set

module _ {X : Type 0} (d : Key × X) (v : X) where
  -- the child at an index, with this value
  abbrev pub set_value : List (Key × X) → ℕ → List (Key × X)
  set_value cs i = set cs i ((get_or cs i d).0, v)

  below-set : (x : Key) (cs : List (Key × X)) (i : ℕ) → below_all key_cmp x (set_value cs i) ≡ below_all key_cmp x cs
  below-set x [] i = refl
  below-set x (c ∷ cs) zero = refl
  below-set x (c ∷ cs) (suc i) = ap (λ b. is_lt (key_cmp x c.0) && b) (below-set x cs i)

  pub sorted-set : (cs : List (Key × X)) (i : ℕ) → is_sorted key_cmp (set_value cs i) ≡ is_sorted key_cmp cs
  sorted-set [] i = refl
  sorted-set (c ∷ cs) zero = refl
  sorted-set (c ∷ cs) (suc i) = λ j. below-set c.0 cs i j && sorted-set cs i j

  pub find-set_other : (l : Key) (cs : List (Key × X)) (i : ℕ) → bytes_eq l (get_or cs i d).0 ≡ false → find key_cmp l (set_value cs i) ≡ find key_cmp l cs
  find-set_other l [] i h = refl
  find-set_other l (c ∷ cs) zero h = other_key l c.0 (Some v) (find key_cmp l cs) h ∙ sym (other_key l c.0 (Some c.1) (find key_cmp l cs) h)
  find-set_other l (c ∷ cs) (suc i) h = ap (λ o. cond (eq_by_cmp key_cmp l c.0) (Some c.1) o) (find-set_other l cs i h)

  pub find-set_same : (name : Key) (cs : List (Key × X)) (i : ℕ) → is_sorted key_cmp cs ≡ true → i < length cs → (get_or cs i d).0 ≡ name → find key_cmp name (set_value cs i) ≡ Some v
  find-set_same name cs i s within is =
      let here : get_or (set_value cs i) i d ≡ ((get_or cs i d).0, v) = get_or-set_same cs i ((get_or cs i d).0, v) d within in
      let long = length-set cs i ((get_or cs i d).0, v) in
      find_at name (set_value cs i) i d (sorted-set cs i ∙ s) (omega arith) (same_key_at (set_value cs i) i d name (ap (λ c. c.0) here ∙ is)) ∙ ap (λ c. Some c.1) here

-- ---- a child is inserted

-- the keys before an index are below the name, and those from it on above
pub record IsGap {X : Type 0} (name : Key) (cs : List (Key × X)) (i : ℕ) : Type 0 where
  pub within : i ≤ length cs
  pub before : (j : ℕ) (d : Key × X) → j < length cs → j < i → key_cmp (get_or cs j d).0 name ≡ Less
  pub after : (j : ℕ) (d : Key × X) → i ≤ j → j < length cs → key_cmp (get_or cs j d).0 name ≡ Greater

-- where a search for the name answers that it isn't there
pub gap_at : {X : Type 0} (name : Key) (cs : List (Key × X)) (i : ℕ) → is_sorted key_cmp cs ≡ true → i ≤ length cs → IsBinarySearchResult (λ c. key_cmp c.0 name) cs (Err i) → IsGap name cs i
gap_at name cs i s within parted =
    let parts = parted (searchable_from_sorted keys_total (λ c. c.0) cs name (sorted_by_key cs s)) in
    record { within = within; before = λ j d inside low. parts.0 j d (omega arith) low; after = λ j d high inside. parts.1 j d high inside }

less_back : (r : Ordering) → r ≡ Greater → is_lt (ordering_reverse r) ≡ true
less_back r is = ap (λ s. is_lt (ordering_reverse s)) is

module _ {X : Type 0} (name : Key) (v : X) where
  below_from : (cs : List (Key × X)) → ((j : ℕ) (d : Key × X) → j < length cs → key_cmp (get_or cs j d).0 name ≡ Greater) → below_all key_cmp name cs ≡ true
  below_from [] h = refl
  below_from (c ∷ cs) h =
      let above : key_cmp c.0 name ≡ Greater = h 0 c (omega arith) in
      both_so _ _ (ap is_lt (keys_total.antisymm name c.0) ∙ less_back (key_cmp c.0 name) above) (below_from cs (λ j d inside. h (suc j) d (omega arith)))

  below-insert : (x : Key) (cs : List (Key × X)) (i : ℕ) → is_lt (key_cmp x name) ≡ true → below_all key_cmp x cs ≡ true → below_all key_cmp x (insert cs i (name, v)) ≡ true
  below-insert x cs zero less h = both_so _ _ less h
  below-insert x [] (suc i) less h = both_so _ _ less h
  below-insert x (c ∷ cs) (suc i) less h = both_so _ _ (first_so _ _ h) (below-insert x cs i less (second_so _ _ h))

  pub sorted-insert : (cs : List (Key × X)) (i : ℕ) → is_sorted key_cmp cs ≡ true → IsGap name cs i → is_sorted key_cmp (insert cs i (name, v)) ≡ true
  sorted-insert cs zero s gap = both_so _ _ (below_from cs (λ j d inside. gap.after j d (omega arith) inside)) s
  sorted-insert [] (suc i) s gap = refl
  sorted-insert (c ∷ cs) (suc i) s gap =
      let more = gap.within in
      let rest : IsGap name cs i = record {
        within = omega arith;
        before = λ j d inside low. gap.before (suc j) d (omega arith) (omega arith);
        after = λ j d high inside. gap.after (suc j) d (omega arith) (omega arith);
      } in
      both_so _ _ (below-insert c.0 cs i (ap is_lt (gap.before 0 c (omega arith) (omega arith))) (first_so _ _ s)) (sorted-insert cs i (second_so _ _ s) rest)

  pub find-insert_other : (l : Key) (cs : List (Key × X)) (i : ℕ) → bytes_eq l name ≡ false → find key_cmp l (insert cs i (name, v)) ≡ find key_cmp l cs
  find-insert_other l cs zero h = other_key l name (Some v) (find key_cmp l cs) h
  find-insert_other l [] (suc i) h = other_key l name (Some v) None h
  find-insert_other l (c ∷ cs) (suc i) h = ap (λ o. cond (eq_by_cmp key_cmp l c.0) (Some c.1) o) (find-insert_other l cs i h)

  pub find-insert_same : (cs : List (Key × X)) (i : ℕ) → is_sorted key_cmp cs ≡ true → IsGap name cs i → find key_cmp name (insert cs i (name, v)) ≡ Some v
  find-insert_same cs i s gap =
      let more = gap.within in
      let here : get_or (insert cs i (name, v)) i (name, v) ≡ (name, v) = get_or-insert_at cs i (name, v) (name, v) more in
      let long = length-insert cs i (name, v) more in
      find_at name (insert cs i (name, v)) i (name, v) (sorted-insert cs i s gap) (omega arith) (same_key_at (insert cs i (name, v)) i (name, v) name (ap (λ c. c.0) here)) ∙ ap (λ c. Some c.1) here

-- ---- a child is taken out

module _ {X : Type 0} where
  below-remove : (x : Key) (cs : List (Key × X)) (i : ℕ) → below_all key_cmp x cs ≡ true → below_all key_cmp x (remove cs i) ≡ true
  below-remove x [] zero h = refl
  below-remove x [] (suc i) h = refl
  below-remove x (c ∷ cs) zero h = second_so _ _ h
  below-remove x (c ∷ cs) (suc i) h = both_so _ _ (first_so _ _ h) (below-remove x cs i (second_so _ _ h))

  pub sorted-remove : (cs : List (Key × X)) (i : ℕ) → is_sorted key_cmp cs ≡ true → is_sorted key_cmp (remove cs i) ≡ true
  sorted-remove [] zero s = refl
  sorted-remove [] (suc i) s = refl
  sorted-remove (c ∷ cs) zero s = second_so _ _ s
  sorted-remove (c ∷ cs) (suc i) s = both_so _ _ (below-remove c.0 cs i (first_so _ _ s)) (sorted-remove cs i (second_so _ _ s))

  pub find-remove_other : (l : Key) (cs : List (Key × X)) (i : ℕ) (d : Key × X) → bytes_eq l (get_or cs i d).0 ≡ false → find key_cmp l (remove cs i) ≡ find key_cmp l cs
  find-remove_other l [] zero d h = refl
  find-remove_other l [] (suc i) d h = refl
  find-remove_other l (c ∷ cs) zero d h = sym (other_key l c.0 (Some c.1) (find key_cmp l cs) h)
  find-remove_other l (c ∷ cs) (suc i) d h = ap (λ o. cond (eq_by_cmp key_cmp l c.0) (Some c.1) o) (find-remove_other l cs i d h)

  pub find-remove_same : (name : Key) (cs : List (Key × X)) (i : ℕ) (d : Key × X) → is_sorted key_cmp cs ≡ true → i < length cs → (get_or cs i d).0 ≡ name → find key_cmp name (remove cs i) ≡ None
  find-remove_same name [] i d s within is = absurd (omega arith)
  find-remove_same name (c ∷ cs) zero d s within is = find_beyond name c cs s (ap (bytes_eq name) is ∙ bytes_eq-self name)
  find-remove_same name (c ∷ cs) (suc i) d s within is =
      let inside : i < length cs = omega arith in
      let later : find key_cmp name cs ≡ Some (get_or cs i d).1 = find_at name cs i d (second_so _ _ s) inside (same_key_at cs i d name is) in
      elim (eq_by_cmp key_cmp name c.0) as (λ b. eq_by_cmp key_cmp name c.0 ≡ b → cond b (Some c.1) (find key_cmp name (remove cs i)) ≡ None) [
        | true ↦ λ tied. let none : find key_cmp name cs ≡ None = find_beyond name c cs s (sym (is_eq-slice_cmp name c.0) ∙ tied) in cc
        | false ↦ λ _. find-remove_same name cs i d (second_so _ _ s) inside is
      ] refl

-- ---- what holds of each

module _ {X : Type 0} (P : X → Type 0) where
  pub all-set : (xs : List X) (i : ℕ) (x : X) → AllByRecursion P xs → P x → AllByRecursion P (set xs i x)
  all-set [] i x a p = tt
  all-set (y ∷ xs) zero x a p = (p, a.1)
  all-set (y ∷ xs) (suc i) x a p = (a.0, all-set xs i x a.1 p)

  pub all-insert : (xs : List X) (i : ℕ) (x : X) → AllByRecursion P xs → P x → AllByRecursion P (insert xs i x)
  all-insert xs zero x a p = (p, a)
  all-insert [] (suc i) x a p = (p, tt)
  all-insert (y ∷ xs) (suc i) x a p = (a.0, all-insert xs i x a.1 p)

  pub all-remove : (xs : List X) (i : ℕ) → AllByRecursion P xs → AllByRecursion P (remove xs i)
  all-remove [] zero a = tt
  all-remove [] (suc i) a = tt
  all-remove (y ∷ xs) zero a = a.1
  all-remove (y ∷ xs) (suc i) a = (a.0, all-remove xs i a.1)

pub not_empty : {X : Type 0} (xs : List X) → 0 < length xs → xs ≢ []
not_empty [] h e = absurd (omega arith)
not_empty (x ∷ xs) h e = cc

-- the only element of a list
pub alone : {X : Type 0} (xs : List X) (i : ℕ) → length xs ≡ 1 → i < length xs → remove xs i ≡ []
alone [] i one within = absurd (omega arith)
alone (x ∷ []) zero one within = refl
alone (x ∷ []) (suc i) one within = absurd (omega arith)
alone (x ∷ y ∷ xs) i one within = absurd (omega arith)

-- a path that is not empty is its first key and the rest
pub first_and_rest : {X : Type 0} (xs : List X) (x : X) → 0 < length xs → x ≡ get_or xs 0 x → xs ≡ x ∷ take (length xs - 1) (drop 1 xs)
first_and_rest [] x h is = absurd (omega arith)
first_and_rest {X} (y ∷ xs) x h is = (λ j. sym is j ∷ all xs j) ∙ ap (λ n. x ∷ take n xs) one_less
  where
    one_less : length xs ≡ suc (length xs) - 1
    one_less = omega arith

    all : (ys : List X) → ys ≡ take (length ys) ys
    all [] = refl
    all (z ∷ ys) = ap (λ zs. z ∷ zs) (all ys)
