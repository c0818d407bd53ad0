-- What holds of a list that grows by one, or of each of its elements.
use Rattle.std.proofs.Common.{◌≡◌, ℕ, ◌+◌, ◌≤◌, ◌<◌, zero, suc, max, List, [], ◌∷◌, ◌++◌, map, length, take, drop, get_or, add-one, sym, ap, ◌∙◌, arith}
use Rattle.std.specs.Ordering.{nat_cmp, ord_max}
use Rattle.std.specs.List.{All, AllByRecursion}
use Rattle.std.proofs.lemmas.Bool.Decides.{nat_tests}
use Rattle.std.proofs.lemmas.List.{take_more}
use Rattle.std.proofs.Math.Seq.{drop-cons}
use Rattle.tree_model.specs.PathMap.{greatest}

pub ord_max-nat : (m n : ℕ) → ord_max nat_cmp m n ≡ max m n
ord_max-nat m n = grind (arith, nat_tests)

pub all_by_recursion : {X : Type 0} (P : X → Type 0) (xs : List X) → All P xs → AllByRecursion P xs
all_by_recursion P [] h = tt
all_by_recursion P (x ∷ xs) h = (h 0 x (omega arith), all_by_recursion P xs (λ k d within. h (suc k) d (omega arith)))

pub all_push : {X : Type 0} (P : X → Type 0) (xs : List X) (x : X) → AllByRecursion P xs → P x → AllByRecursion P (xs ++ x ∷ [])
all_push P [] x h p = (p, tt)
all_push P (y ∷ xs) x h p = (h.0, all_push P xs x h.1 p)

pub greatest-push : {X : Type 0} (f : X → ℕ) (xs : List X) (x : X) → greatest (map f (xs ++ x ∷ [])) ≡ max (greatest (map f xs)) (f x)
greatest-push f [] x = omega arith
greatest-push f (y ∷ xs) x = omega (arith, greatest-push f xs x)

-- no element has more than the greatest
pub le-greatest : {X : Type 0} (f : X → ℕ) (xs : List X) (i : ℕ) (d : X) → i < length xs → f (get_or xs i d) ≤ greatest (map f xs)
le-greatest f [] i d h = absurd (omega arith)
le-greatest f (x ∷ xs) zero d h = omega arith
le-greatest f (x ∷ xs) (suc i) d h = let le = le-greatest f xs i d (omega arith) in omega arith

-- one more of a list, where the element is given as a loop gives it
pub take_next : {X : Type 0} (xs : List X) (i : ℕ) (x : X) → i < length xs → x ≡ get_or xs i x → take (i + 1) xs ≡ take i xs ++ x ∷ []
take_next xs i x h is = take_more xs i x h ∙ ap (λ y. take i xs ++ y ∷ []) (sym is)

-- what is left of a list from an index on
pub drop_next : {X : Type 0} (xs : List X) (i : ℕ) (x : X) → i < length xs → x ≡ get_or xs i x → drop i xs ≡ x ∷ drop (i + 1) xs
drop_next xs i x h is = drop-cons xs i x h ∙ (λ j. sym is j ∷ drop (sym (add-one i) j) xs)

pub all_from_recursion : {X : Type 0} (P : X → Type 0) (xs : List X) → AllByRecursion P xs → All P xs
all_from_recursion P [] h k d within = absurd (omega arith)
all_from_recursion P (x ∷ xs) h zero d within = h.0
all_from_recursion P (x ∷ xs) h (suc k) d within = all_from_recursion P xs h.1 k d (omega arith)

pub weaker : {X : Type 0} (P Q : X → Type 0) → ((x : X) → P x → Q x) → (xs : List X) → AllByRecursion P xs → AllByRecursion Q xs
weaker P Q h [] a = tt
weaker P Q h (x ∷ xs) a = (h x a.0, weaker P Q h xs a.1)
