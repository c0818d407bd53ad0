-- The orders of keys and of values are total.
use Rattle.std.proofs.Common.{◌≡◌, ◌∙◌, ap, ℕ, Bool, true, false, ℤ, pos, length, List, [], Option, Some, None, Ordering, Less, Equal, Greater, nat_cmp, sym, refl, subst}
use Rattle.std.specs.Prelude.{◌≢◌}
use Rattle.std.specs.Bool.{OnTrue, OnFalse}
use Rattle.std.specs.Cmp.{IsTotalOrder, both_ways, tied_itself}
use Rattle.std.specs.FinMap.{IsAntisymmetric, int_cmp-IsAntisymmetric}
use Rattle.std.specs.Ordering.{is_eq, int_cmp, ordering_then, on, then_cmp}
use Rattle.std.proofs.lemmas.Cmp.{nat_cmp_total, int_cmp_total, on_total, then_total}
use Rattle.tree_model.specs.Key.{Key, key_cmp}
use Rattle.tree_model.specs.Primitive.{Primitive, truth, whole, words}
use Rattle.tree_model.proofs.Orders.{keys_total, exact_keys}
use Rattle.listeners.specs.Working.Ranks.{Rank, keyed, keyed_cmp, rank_cmp}
use Rattle.listeners.specs.Order.{number_of, numbered_cmp, length_cmp, list_cmp, SortPlace, nothing, value, location, place_cmp, primitive_cmp}

-- two orders in one place are one
pub same_total : {X : Type 0} (R S : X → X → Ordering) → ((x y : X) → R x y ≡ S x y) → IsTotalOrder S → IsTotalOrder R
same_total {X} R S same total = subst (λ (T : X → X → Ordering). IsTotalOrder T) (λ i x y. sym (same x y) i) total

-- ---- keys

-- those that are numbers first
abbrev rank : Option ℤ → ℕ
rank (Some z) = 0
rank None = 1

abbrev size : Option ℤ → ℤ
size (Some z) = z
size None = pos 0

-- the length of a key that is a number
abbrev long : Option ℤ → Key → ℕ
long (Some z) k = length k
long None k = 0

abbrev numbers : Option ℤ → Option ℤ → Ordering
numbers = then_cmp (on rank nat_cmp) (on size int_cmp)

abbrev keyed_by : Option ℤ × Key → Option ℤ × Key → Ordering
keyed_by = then_cmp (on (λ k. k.0) numbers) (then_cmp (on (λ k. long k.0 k.1) nat_cmp) (on (λ k. k.1) key_cmp))

keyed_cmp-by : (k l : Option ℤ × Key) → keyed_cmp k l ≡ keyed_by k l
keyed_cmp-by k l = by_numbers k.0 l.0
  where
    by_numbers : (a b : Option ℤ) → ordering_then (numbered_cmp a b) (ordering_then (length_cmp a k.1 l.1) (key_cmp k.1 l.1)) ≡ ordering_then (numbers a b) (ordering_then (nat_cmp (long a k.1) (long b l.1)) (key_cmp k.1 l.1))
    by_numbers None None = refl
    by_numbers None (Some y) = refl
    by_numbers (Some x) None = refl
    by_numbers (Some x) (Some y) = refl

pub keyed_total : IsTotalOrder keyed_cmp
keyed_total = same_total keyed_cmp keyed_by keyed_cmp-by (then_total (on_total (λ k. k.0) (then_total (on_total rank nat_cmp_total) (on_total size int_cmp_total))) (then_total (on_total (λ k. long k.0 k.1) nat_cmp_total) (on_total (λ k. k.1) keys_total)))

-- the order of keys, by their numbers
pub list_cmp-keyed : (k l : Key) → list_cmp k l ≡ keyed_cmp (keyed k) (keyed l)
unfolding list_cmp
list_cmp-keyed k l = refl

pub list_total : IsTotalOrder list_cmp
list_total = same_total list_cmp (on keyed keyed_cmp) list_cmp-keyed (on_total keyed keyed_total)

-- what ties by two orders ties by the second
pub then_tied : (o p : Ordering) → ordering_then o p ≡ Equal → p ≡ Equal
then_tied Less p h = cc
then_tied Equal p h = h
then_tied Greater p h = cc

-- only one key has its place
pub list_exact : (k l : Key) → list_cmp k l ≡ Equal → k ≡ l
unfolding list_cmp
list_exact k l h = exact_keys k l (then_tied _ _ (then_tied (numbered_cmp (number_of k) (number_of l)) _ h))

-- ---- values

abbrev kind : SortPlace → ℕ
kind nothing = 0
kind (value (truth b)) = 1
kind (value (whole z)) = 2
kind (value (words s)) = 3
kind location = 4

abbrev bit : SortPlace → ℕ
bit nothing = 0
bit (value (truth false)) = 0
bit (value (truth true)) = 1
bit (value (whole z)) = 0
bit (value (words s)) = 0
bit location = 0

abbrev whole_in : SortPlace → ℤ
whole_in nothing = pos 0
whole_in (value (truth b)) = pos 0
whole_in (value (whole z)) = z
whole_in (value (words s)) = pos 0
whole_in location = pos 0

abbrev words_in : SortPlace → List ℕ
words_in nothing = []
words_in (value (truth b)) = []
words_in (value (whole z)) = []
words_in (value (words s)) = s
words_in location = []

abbrev place_by : SortPlace → SortPlace → Ordering
place_by = then_cmp (on kind nat_cmp) (then_cmp (on bit nat_cmp) (then_cmp (on whole_in int_cmp) (on words_in key_cmp)))

then_equal : (o : Ordering) → o ≡ ordering_then o Equal
then_equal Less = refl
then_equal Equal = refl
then_equal Greater = refl

place_cmp-by : (p q : SortPlace) → place_cmp p q ≡ place_by p q
unfolding place_cmp
place_cmp-by nothing nothing = refl
place_cmp-by nothing (value (truth b)) = refl
place_cmp-by nothing (value (whole y)) = refl
place_cmp-by nothing (value (words t)) = refl
place_cmp-by nothing location = refl
place_cmp-by (value (truth a)) nothing = refl
place_cmp-by (value (truth false)) (value (truth false)) = refl
place_cmp-by (value (truth false)) (value (truth true)) = refl
place_cmp-by (value (truth true)) (value (truth false)) = refl
place_cmp-by (value (truth true)) (value (truth true)) = refl
place_cmp-by (value (truth a)) (value (whole y)) = refl
place_cmp-by (value (truth a)) (value (words t)) = refl
place_cmp-by (value (truth a)) location = refl
place_cmp-by (value (whole x)) nothing = refl
place_cmp-by (value (whole x)) (value (truth b)) = refl
place_cmp-by (value (whole x)) (value (whole y)) = then_equal (int_cmp x y)
place_cmp-by (value (whole x)) (value (words t)) = refl
place_cmp-by (value (whole x)) location = refl
place_cmp-by (value (words s)) nothing = refl
place_cmp-by (value (words s)) (value (truth b)) = refl
place_cmp-by (value (words s)) (value (whole y)) = refl
place_cmp-by (value (words s)) (value (words t)) = refl
place_cmp-by (value (words s)) location = refl
place_cmp-by location nothing = refl
place_cmp-by location (value (truth b)) = refl
place_cmp-by location (value (whole y)) = refl
place_cmp-by location (value (words t)) = refl
place_cmp-by location location = refl

pub place_total : IsTotalOrder place_cmp
place_total = same_total place_cmp place_by place_cmp-by (then_total (on_total kind nat_cmp_total) (then_total (on_total bit nat_cmp_total) (then_total (on_total whole_in int_cmp_total) (on_total words_in keys_total))))

-- only the same primitives are in one place
exact_primitives : IsAntisymmetric primitive_cmp
exact_primitives (truth false) (truth false) e = refl
exact_primitives (truth false) (truth true) e = cc
exact_primitives (truth true) (truth false) e = cc
exact_primitives (truth true) (truth true) e = refl
exact_primitives (truth a) (whole y) e = cc
exact_primitives (truth a) (words t) e = cc
exact_primitives (whole x) (truth b) e = cc
exact_primitives (whole x) (whole y) e = ap whole (int_cmp-IsAntisymmetric x y e)
exact_primitives (whole x) (words t) e = cc
exact_primitives (words s) (truth b) e = cc
exact_primitives (words s) (whole y) e = cc
exact_primitives (words s) (words t) e = ap words (exact_keys s t e)

equal_if : (o : Ordering) → is_eq o ≡ true → o ≡ Equal
equal_if Less e = cc
equal_if Equal e = refl
equal_if Greater e = cc

pub same_place : (b : Bool) (v w : Primitive) → OnTrue b (v ≡ w) → OnFalse b (v ≢ w) → b ≡ is_eq (place_cmp (value v) (value w))
unfolding place_cmp
same_place true v w same differs = ap is_eq (sym (tied_itself place_total (value v)) ∙ ap (λ (u : Primitive). place_cmp (value v) (value u)) same)
same_place false v w same differs = both_ways false (is_eq (place_cmp (value v) (value w))) (λ e. cc) (λ e. absurd (differs (exact_primitives v w (equal_if _ e))))

-- ---- children

pub rank_total : IsTotalOrder rank_cmp
rank_total = then_total (on_total (λ (r : Rank). r.0) place_total) (on_total (λ (r : Rank). r.1) keyed_total)
