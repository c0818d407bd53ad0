-- What is among the elements of a list, and the one with the least path.
use Rattle.std.proofs.Common.{◌≡◌, ◌≢◌, ℕ, zero, suc, ◌<◌, ◌⊎◌, inl, inr, ◌||◌, Bool, true, false, cond, List, [], ◌∷◌, ◌++◌, length, get_or, Some, None, Option, sym, ap, ◌∙◌, subst, refl, arith}
use Rattle.std.specs.Prelude.{Contains, filter, filter_map, flat_map}
use Rattle.std.specs.List.{list_any, cons_option}
use Rattle.std.specs.Cmp.{tied_itself}
use Rattle.std.specs.Ordering.{is_gt, ordering_reverse}
use Rattle.std.proofs.lemmas.Cmp.{upto}
use Rattle.std.proofs.lemmas.Bool.{false≢true}
use Rattle.std.specs.declared.cmp.Ordering.{Ordering}
use Rattle.std.specs.declared.cmp.Ordering.TheVariants.{Less, Equal, Greater}
use Rattle.tree_model.specs.Path.{Path, path_cmp, is_prefix, prefixes}
use Rattle.tree_model.proofs.Orders.{paths_total, exact_paths, same_path, path_eq-self}
use Rattle.tree_model.proofs.Paths.{any-prefixes}
use Rattle.judge.specs.Tests.{lesser, least}

abbrev pub IsOf : {A : Type 0} → A → List A → Type 0
IsOf x [] = ⊥
IsOf x (y ∷ ys) = (y ≡ x) ⊎ IsOf x ys

pub some_same : {A : Type 0} (x y : A) → Some x ≡ Some y → x ≡ y
some_same x y e = cc

module _ {A : Type 0} where
  pub of_contained : (xs : List A) (x : A) → Contains xs x → IsOf x xs
  of_contained xs x h = go xs h.0 h.1 h.2
    where
      go : (ys : List A) (i : ℕ) → i < length ys → get_or ys i x ≡ x → IsOf x ys
      go [] i l e = absurd (omega arith)
      go (y ∷ ys) zero l e = inl e
      go (y ∷ ys) (suc i) l e = inr (go ys i (omega arith) e)

  pub contained : (xs : List A) (x : A) → IsOf x xs → Contains xs x
  contained [] x i = elim i [ ]
  contained (y ∷ ys) x (inl e) = (0, omega arith, e)
  contained (y ∷ ys) x (inr i) = let h = contained ys x i in (suc h.0, omega (arith, h.1), h.2)

  pub of_append : (xs ys : List A) (x : A) → IsOf x (xs ++ ys) → IsOf x xs ⊎ IsOf x ys
  of_append [] ys x i = inr i
  of_append (z ∷ xs) ys x (inl e) = inl (inl e)
  of_append (z ∷ xs) ys x (inr i) = elim (of_append xs ys x i) [
    | inl j ↦ inl (inr j)
    | inr j ↦ inr j
  ]

  pub in_front : (xs ys : List A) (x : A) → IsOf x xs → IsOf x (xs ++ ys)
  in_front [] ys x i = elim i [ ]
  in_front (z ∷ xs) ys x (inl e) = inl e
  in_front (z ∷ xs) ys x (inr i) = inr (in_front xs ys x i)

  pub in_back : (xs ys : List A) (x : A) → IsOf x ys → IsOf x (xs ++ ys)
  in_back [] ys x i = i
  in_back (z ∷ xs) ys x i = inr (in_back xs ys x i)

module _ {A : Type 0} (test : A → Bool) where
  pub of_filter : (xs : List A) (x : A) → IsOf x (filter test xs) → IsOf x xs × (test x ≡ true)
  of_filter [] x h = elim h [ ]
  of_filter (y ∷ ys) x h =
      elim (test y) as (λ b. test y ≡ b → IsOf x (cond b (y ∷ filter test ys) (filter test ys)) → IsOf x (y ∷ ys) × (test x ≡ true)) [
        | true ↦ λ e g. kept (of_filter ys x) e g
        | false ↦ λ _ g. let rest = of_filter ys x g in (inr rest.0, rest.1)
      ] refl h
    where
      kept : (IsOf x (filter test ys) → IsOf x ys × (test x ≡ true)) → test y ≡ true → (y ≡ x) ⊎ IsOf x (filter test ys) → IsOf x (y ∷ ys) × (test x ≡ true)
      kept rest e (inl same) = (inl same, ap test (sym same) ∙ e)
      kept rest e (inr i) = let r = rest i in (inr r.0, r.1)

  pub in_filter : (xs : List A) (x : A) → IsOf x xs → test x ≡ true → IsOf x (filter test xs)
  in_filter [] x i h = elim i [ ]
  in_filter (y ∷ ys) x i h =
      elim (test y) as (λ b. test y ≡ b → (y ≡ x) ⊎ IsOf x ys → IsOf x (cond b (y ∷ filter test ys) (filter test ys))) [
        | true ↦ λ _ j. front (in_filter ys x) j
        | false ↦ λ e j. behind (in_filter ys x) e j
      ] refl i
    where
      front : (IsOf x ys → test x ≡ true → IsOf x (filter test ys)) → (y ≡ x) ⊎ IsOf x ys → (y ≡ x) ⊎ IsOf x (filter test ys)
      front rest (inl e) = inl e
      front rest (inr j) = inr (rest j h)

      behind : (IsOf x ys → test x ≡ true → IsOf x (filter test ys)) → test y ≡ false → (y ≡ x) ⊎ IsOf x ys → IsOf x (filter test ys)
      behind rest e (inl same) = absurd (false≢true (sym e ∙ ap test same ∙ h))
      behind rest e (inr j) = rest j h

  pub of_any : (xs : List A) → list_any test xs ≡ true → (x : A) × IsOf x xs × (test x ≡ true)
  of_any [] h = absurd (false≢true h)
  of_any (y ∷ ys) h =
      elim (test y) as (λ b. test y ≡ b → (b || list_any test ys) ≡ true → (x : A) × IsOf x (y ∷ ys) × (test x ≡ true)) [
        | true ↦ λ e _. (y, inl refl, e)
        | false ↦ λ _ g. let rest = of_any ys g in (rest.0, inr rest.1, rest.2)
      ] refl h

  pub in_any : (xs : List A) (x : A) → IsOf x xs → test x ≡ true → list_any test xs ≡ true
  in_any [] x i h = elim i [ ]
  in_any (y ∷ ys) x (inl e) h = ap (λ b. b || list_any test ys) (ap test e ∙ h)
  in_any (y ∷ ys) x (inr i) h = later (test y) (in_any ys x i h)
    where
      later : (b : Bool) → list_any test ys ≡ true → (b || list_any test ys) ≡ true
      later true g = refl
      later false g = g

module _ {A B : Type 0} (f : A → Option B) where
  pub of_filter_map : (xs : List A) (y : B) → IsOf y (filter_map f xs) → (x : A) × IsOf x xs × (f x ≡ Some y)
  of_filter_map [] y h = elim h [ ]
  of_filter_map (x ∷ xs) y h =
      elim (f x) as (λ o. f x ≡ o → IsOf y (cons_option o (filter_map f xs)) → (z : A) × IsOf z (x ∷ xs) × (f z ≡ Some y)) [
        | None ↦ λ _ g. further (of_filter_map xs y g)
        | Some v ↦ λ e g. made (of_filter_map xs y) v e g
      ] refl h
    where
      further : (z : A) × IsOf z xs × (f z ≡ Some y) → (z : A) × IsOf z (x ∷ xs) × (f z ≡ Some y)
      further w = (w.0, inr w.1, w.2)

      made : (IsOf y (filter_map f xs) → (z : A) × IsOf z xs × (f z ≡ Some y)) → (v : B) → f x ≡ Some v → (v ≡ y) ⊎ IsOf y (filter_map f xs) → (z : A) × IsOf z (x ∷ xs) × (f z ≡ Some y)
      made rest v e (inl same) = (x, inl refl, e ∙ ap Some same)
      made rest v e (inr j) = further (rest j)

  pub in_filter_map : (xs : List A) (x : A) (y : B) → IsOf x xs → f x ≡ Some y → IsOf y (filter_map f xs)
  in_filter_map [] x y i e = elim i [ ]
  in_filter_map (z ∷ xs) x y i e =
      elim (f z) as (λ o. f z ≡ o → (z ≡ x) ⊎ IsOf x xs → IsOf y (cons_option o (filter_map f xs))) [
        | None ↦ λ n j. skipped (in_filter_map xs x y) n j
        | Some v ↦ λ s j. there (in_filter_map xs x y) v s j
      ] refl i
    where
      skipped : (IsOf x xs → f x ≡ Some y → IsOf y (filter_map f xs)) → f z ≡ None → (z ≡ x) ⊎ IsOf x xs → IsOf y (filter_map f xs)
      skipped rest n (inl same) = let never : None ≡ Some y = sym n ∙ ap f same ∙ e in cc
      skipped rest n (inr j) = rest j e

      there : (IsOf x xs → f x ≡ Some y → IsOf y (filter_map f xs)) → (v : B) → f z ≡ Some v → (z ≡ x) ⊎ IsOf x xs → (v ≡ y) ⊎ IsOf y (filter_map f xs)
      there rest v s (inl same) = inl (some_same v y (sym s ∙ ap f same ∙ e))
      there rest v s (inr j) = inr (rest j e)

module _ {A B : Type 0} (f : A → List B) where
  pub of_flat_map : (xs : List A) (y : B) → IsOf y (flat_map f xs) → (x : A) × IsOf x xs × IsOf y (f x)
  of_flat_map [] y h = elim h [ ]
  of_flat_map (x ∷ xs) y h = elim (of_append (f x) (flat_map f xs) y h) [
    | inl i ↦ (x, inl refl, i)
    | inr i ↦ let rest = of_flat_map xs y i in (rest.0, inr rest.1, rest.2)
  ]

  pub in_flat_map : (xs : List A) (x : A) (y : B) → IsOf x xs → IsOf y (f x) → IsOf y (flat_map f xs)
  in_flat_map [] x y i h = elim i [ ]
  in_flat_map (z ∷ xs) x y (inl e) h = in_front (f z) (flat_map f xs) y (subst (λ (w : A). IsOf y (f w)) (sym e) h)
  in_flat_map (z ∷ xs) x y (inr i) h = in_back (f z) (flat_map f xs) y (in_flat_map xs x y i h)

-- ---- the prefixes of a path

pub of_prefixes : (path place : Path) → IsOf place (prefixes path) → is_prefix place path ≡ true
of_prefixes path place i = sym (any-prefixes path place) ∙ in_any _ (prefixes path) place i (path_eq-self place)

pub in_prefixes : (path place : Path) → is_prefix place path ≡ true → IsOf place (prefixes path)
in_prefixes path place h =
    let at = of_any _ (prefixes path) (any-prefixes path place ∙ h) in
    subst (λ (p : Path). IsOf p (prefixes path)) (sym (same_path place at.0 at.2)) at.1

-- ---- the least

-- p comes no later than q
abbrev pub IsUpTo : Path → Path → Type 0
IsUpTo p q = is_gt (path_cmp p q) ≡ false

up_to_itself : (p : Path) → IsUpTo p p
up_to_itself p = ap is_gt (tied_itself paths_total p)

turned : (o : Ordering) → is_gt o ≡ true → is_gt (ordering_reverse o) ≡ false
turned Less h = absurd (false≢true h)
turned Equal h = refl
turned Greater h = refl

up_to_greater : (p q : Path) → is_gt (path_cmp p q) ≡ true → IsUpTo q p
up_to_greater p q h = ap is_gt (paths_total.antisymm q p) ∙ turned (path_cmp p q) h

pub not_less : (p q : Path) → IsUpTo p q → path_cmp q p ≢ Less
not_less p q h e = false≢true (sym h ∙ ap is_gt (paths_total.antisymm p q ∙ ap ordering_reverse e))

pub neither_less : (p q : Path) → path_cmp p q ≢ Less → path_cmp q p ≢ Less → p ≡ q
neither_less p q h g =
    elim (path_cmp p q) as (λ o. o ≢ Less → (o ≡ Equal → p ≡ q) → ordering_reverse o ≢ Less → p ≡ q) [
      | Less ↦ λ n _ _. absurd (n refl)
      | Equal ↦ λ _ same _. same refl
      | Greater ↦ λ _ _ n. absurd (n refl)
    ] h (exact_paths p q) (λ e. g (paths_total.antisymm q p ∙ e))

module _ {A : Type 0} (path : A → Path) where
  pub least_none : (xs : List A) (x : A) → least path xs ≡ None → IsOf x xs → ⊥
  least_none [] x h i = i
  least_none (y ∷ ys) x h i = cc

  -- it is among them, and comes no later than any
  pub least_is : (xs : List A) (y : A) → least path xs ≡ Some y → IsOf y xs × ((z : A) → IsOf z xs → IsUpTo (path y) (path z))
  least_is [] y h = cc
  least_is (x ∷ xs) y h =
      elim (least path xs) as (λ o. least path xs ≡ o → Some (lesser path x o) ≡ Some y → IsOf y (x ∷ xs) × ((z : A) → IsOf z (x ∷ xs) → IsUpTo (path y) (path z))) [
        | None ↦ λ e g. subst (λ (v : A). IsOf v (x ∷ xs) × ((z : A) → IsOf z (x ∷ xs) → IsUpTo (path v) (path z))) (some_same x y g) (inl refl, alone e)
        | Some m ↦ λ e g. subst (λ (v : A). IsOf v (x ∷ xs) × ((z : A) → IsOf z (x ∷ xs) → IsUpTo (path v) (path z))) (some_same (lesser path x (Some m)) y g) (two m (least_is xs m e))
      ] refl h
    where
      alone : least path xs ≡ None → (z : A) → IsOf z (x ∷ xs) → IsUpTo (path x) (path z)
      alone e z (inl same) = subst (λ (v : A). IsUpTo (path x) (path v)) same (up_to_itself (path x))
      alone e z (inr i) = absurd (least_none xs z e i)

      first : (m : A) → ((z : A) → IsOf z xs → IsUpTo (path m) (path z)) → IsUpTo (path x) (path m) → (z : A) → IsOf z (x ∷ xs) → IsUpTo (path x) (path z)
      first m rest h z (inl same) = subst (λ (v : A). IsUpTo (path x) (path v)) same (up_to_itself (path x))
      first m rest h z (inr i) = upto paths_total (path x) (path m) (path z) h (rest z i)

      second : (m : A) → ((z : A) → IsOf z xs → IsUpTo (path m) (path z)) → is_gt (path_cmp (path x) (path m)) ≡ true → (z : A) → IsOf z (x ∷ xs) → IsUpTo (path m) (path z)
      second m rest h z (inl same) = subst (λ (v : A). IsUpTo (path m) (path v)) same (up_to_greater (path x) (path m) h)
      second m rest h z (inr i) = rest z i

      two : (m : A) → IsOf m xs × ((z : A) → IsOf z xs → IsUpTo (path m) (path z)) → IsOf (lesser path x (Some m)) (x ∷ xs) × ((z : A) → IsOf z (x ∷ xs) → IsUpTo (path (lesser path x (Some m))) (path z))
      two m rest = elim (is_gt (path_cmp (path x) (path m))) as (λ b. is_gt (path_cmp (path x) (path m)) ≡ b → IsOf (cond b m x) (x ∷ xs) × ((z : A) → IsOf z (x ∷ xs) → IsUpTo (path (cond b m x)) (path z))) [
        | true ↦ λ e. (inr rest.0, second m rest.1 e)
        | false ↦ λ e. (inl refl, first m rest.1 e)
      ] refl
