-- Lists, element by element, and the order of keys.
use Rattle.std.proofs.Common.{◌≡◌, ℕ, zero, suc, ◌+◌, ◌<◌, List, [], ◌∷◌, ◌++◌, map, length, drop, take, get_or, slice_get, Option, Some, None, option_map, refl, sym, ap, subst, ◌∙◌, arith, add-one}
use Rattle.std.specs.Prelude.{IfSome, IfNone, IfOk, Result, Ok, Err}
use Rattle.std.proofs.Math.Seq.{drop-cons}

-- what is left from an element on
pub left_from : {A : Type 0} (xs : List A) (i : ℕ) (x : A) → i < length xs → x ≡ get_or xs i x → drop i xs ≡ x ∷ drop (i + 1) xs
left_from xs i x within at = rw add-one (drop-cons xs i x within ∙ ap (λ y. y ∷ drop (suc i) xs) (sym at))

-- the same of a list that is made of it
pub left_of_made : {A B : Type 0} (f : A → B) (xs : List A) (i : ℕ) (x : A) → slice_get xs i ≡ Some x → drop i (map f xs) ≡ f x ∷ drop (i + 1) (map f xs)
left_of_made f xs i x at = rw add-one (made xs i at)
  where
    made : (ys : List _) (n : ℕ) → slice_get ys n ≡ Some x → drop n (map f ys) ≡ f x ∷ drop (suc n) (map f ys)
    made [] zero e = cc
    made [] (suc n) e = cc
    made (y ∷ ys) zero e = cc
    made (y ∷ ys) (suc n) e = made ys n e

pub none_left : {A B : Type 0} (f : A → B) (xs : List A) (i : ℕ) → slice_get xs i ≡ None → drop i (map f xs) ≡ []
none_left f [] zero e = refl
none_left f [] (suc i) e = refl
none_left f (x ∷ xs) zero e = cc
none_left f (x ∷ xs) (suc i) e = none_left f xs i e

-- a list ends with its last element
pub ends_with : {A : Type 0} (xs : List A) (i : ℕ) (x : A) → length xs ≡ i + 1 → slice_get xs i ≡ Some x → xs ≡ take i xs ++ x ∷ []
ends_with [] zero x l e = cc
ends_with [] (suc i) x l e = cc
ends_with (y ∷ []) zero x l e = cc
ends_with (y ∷ z ∷ ys) zero x l e = absurd (omega arith)
ends_with (y ∷ ys) (suc i) x l e = ap (λ zs. y ∷ zs) (ends_with ys i x (omega arith) e)

pub if_some_so : {A : Type 0} (P Q : A → Type 0) (o : Option A) → ((x : A) → P x → Q x) → IfSome o P → IfSome o Q
if_some_so P Q None f h = tt
if_some_so P Q (Some x) f h = f x h

pub none_within : {A : Type 0} (xs : List A) (i : ℕ) → i < length xs → slice_get xs i ≡ None → ⊥
none_within [] i within e = absurd (omega arith)
none_within (x ∷ xs) zero within e = cc
none_within (x ∷ xs) (suc i) within e = none_within xs i (omega arith) e

-- what a known option says
pub if_some_at : {A B : Type 0} (P : B → Type 0) (f : A → B) (o : Option A) (x : A) → o ≡ Some x → IfSome (option_map f o) P → P (f x)
if_some_at P f None x e h = cc
if_some_at P f (Some y) x e h = let same : y ≡ x = cc in subst (λ z. P (f z)) same h

pub if_none_at : {A B : Type 0} (P : Type 0) (f : A → B) (o : Option A) → o ≡ None → IfNone (option_map f o) P → P
if_none_at P f None e h = h
if_none_at P f (Some y) e h = cc

pub if_ok_so : {A E : Type 0} (P Q : A → Type 0) (r : Result A E) → ((x : A) → P x → Q x) → IfOk r P → IfOk r Q
if_ok_so P Q (Ok x) f h = f x h
if_ok_so P Q (Err e) f h = tt
