-- How many elements of a list pass a test.
use Rattle.std.proofs.Common.{◌≡◌, ℕ, zero, suc, ◌+◌, ◌≤◌, ◌<◌, ◌&&◌, Bool, true, false, cond, List, [], ◌∷◌, length, map, get_or, filter, sym, ap, ◌∙◌, refl, arith}
use Rattle.std.specs.List.{AllByRecursion}
use Rattle.std.specs.List.Sorted.{IsPermutation}
use Rattle.std.proofs.lemmas.List.Sums.{length-filter}
use Rattle.std.proofs.lemmas.List.Sorted.{sum_by-IsPermutation}

-- ---- by where they stand

module _ {X : Type 0} (p : X → Bool) where
  length-cond : (b : Bool) (x : X) (xs : List X) → length (cond b (x ∷ xs) xs) ≤ suc (length xs)
  length-cond true x xs = omega arith
  length-cond false x xs = omega arith

  length-cond_le : (b : Bool) (x : X) (xs : List X) → length xs ≤ length (cond b (x ∷ xs) xs)
  length-cond_le true x xs = omega arith
  length-cond_le false x xs = omega arith

  length-cond_true : (b : Bool) (x : X) (xs : List X) → b ≡ true → length (cond b (x ∷ xs) xs) ≡ suc (length xs)
  length-cond_true b x xs h = ap (λ c. length (cond c (x ∷ xs) xs)) h

  length-cond_false : (b : Bool) (x : X) (xs : List X) → b ≡ false → length (cond b (x ∷ xs) xs) ≡ length xs
  length-cond_false b x xs h = ap (λ c. length (cond c (x ∷ xs) xs)) h

  -- none from m on
  pub none_behind : (xs : List X) (m : ℕ) → ((k : ℕ) (d : X) → m ≤ k → k < length xs → p (get_or xs k d) ≡ false) → length (filter p xs) ≤ m
  none_behind [] m h = omega arith
  none_behind (x ∷ xs) zero h = omega (arith, length-cond_false (p x) x (filter p xs) (h 0 x (omega arith) (omega arith)), none_behind xs zero (λ k d le lt. h (suc k) d (omega arith) (omega arith)))
  none_behind (x ∷ xs) (suc m) h = omega (arith, length-cond (p x) x (filter p xs), none_behind xs m (λ k d le lt. h (suc k) d (omega arith) (omega arith)))

  -- all before m
  pub all_before : (xs : List X) (m : ℕ) → m ≤ length xs → ((k : ℕ) (d : X) → k < m → p (get_or xs k d) ≡ true) → m ≤ length (filter p xs)
  all_before [] m le h = omega arith
  all_before (x ∷ xs) zero le h = omega arith
  all_before (x ∷ xs) (suc m) le h = omega (arith, length-cond_true (p x) x (filter p xs) (h 0 x (omega arith)), all_before xs m (omega arith) (λ k d lt. h (suc k) d (omega arith)))

  -- none before m
  pub none_before : (xs : List X) (m : ℕ) → m ≤ length xs → ((k : ℕ) (d : X) → k < m → p (get_or xs k d) ≡ false) → length (filter p xs) + m ≤ length xs
  none_before [] m le h = omega arith
  none_before (x ∷ xs) zero le h = omega (arith, length-cond (p x) x (filter p xs), none_before xs zero (omega arith) (λ k d lt. absurd (omega arith)))
  none_before (x ∷ xs) (suc m) le h = omega (arith, length-cond_false (p x) x (filter p xs) (h 0 x (omega arith)), none_before xs m (omega arith) (λ k d lt. h (suc k) d (omega arith)))

  -- all from m on
  pub all_behind : (xs : List X) (m : ℕ) → ((k : ℕ) (d : X) → m ≤ k → k < length xs → p (get_or xs k d) ≡ true) → length xs ≤ length (filter p xs) + m
  all_behind [] m h = omega arith
  all_behind (x ∷ xs) zero h = omega (arith, length-cond_true (p x) x (filter p xs) (h 0 x (omega arith) (omega arith)), all_behind xs zero (λ k d le lt. h (suc k) d (omega arith) (omega arith)))
  all_behind (x ∷ xs) (suc m) h = omega (arith, length-cond_le (p x) x (filter p xs), all_behind xs m (λ k d le lt. h (suc k) d (omega arith) (omega arith)))

  -- all of n from t on
  pub all_within : (xs : List X) (t n : ℕ) → t + n ≤ length xs → ((k : ℕ) (d : X) → t ≤ k → k < t + n → p (get_or xs k d) ≡ true) → n ≤ length (filter p xs)
  all_within [] t n le h = omega arith
  all_within (x ∷ xs) t zero le h = omega arith
  all_within (x ∷ xs) zero (suc n) le h = omega (arith, length-cond_true (p x) x (filter p xs) (h 0 x (omega arith) (omega arith)), all_within xs zero n (omega arith) (λ k d low high. h (suc k) d (omega arith) (omega arith)))
  all_within (x ∷ xs) (suc t) (suc n) le h = omega (arith, length-cond_le (p x) x (filter p xs), all_within xs t (suc n) (omega arith) (λ k d low high. h (suc k) d (omega arith) (omega arith)))

  pub fewer : (xs : List X) → length (filter p xs) ≤ length xs
  fewer xs = none_behind xs (length xs) (λ k d le lt. absurd (omega arith))

  -- in any order
  pub count-permutation : (xs ys : List X) → IsPermutation xs ys → length (filter p ys) ≡ length (filter p xs)
  count-permutation xs ys same = length-filter p ys ∙ sum_by-IsPermutation (λ x. cond (p x) 1 0) xs ys same ∙ sym (length-filter p xs)

-- ---- of a list that is mapped

map-cond : {X Y : Type 0} (f : X → Y) (b : Bool) (x : X) (xs : List X) → cond b (f x ∷ map f xs) (map f xs) ≡ map f (cond b (x ∷ xs) xs)
map-cond f true x xs = refl
map-cond f false x xs = refl

pub filter-map : {X Y : Type 0} (f : X → Y) (p : Y → Bool) (xs : List X) → filter p (map f xs) ≡ map f (filter (λ x. p (f x)) xs)
filter-map f p [] = refl
filter-map f p (x ∷ xs) = ap (λ ys. cond (p (f x)) (f x ∷ ys) ys) (filter-map f p xs) ∙ map-cond f (p (f x)) x (filter (λ y. p (f y)) xs)

-- what passes both tests
filter-cond : {X : Type 0} (p : X → Bool) (b : Bool) (x : X) (xs : List X) → filter p (cond b (x ∷ xs) xs) ≡ cond (b && p x) (x ∷ filter p xs) (filter p xs)
filter-cond p true x xs = refl
filter-cond p false x xs = refl

pub filter-filter : {X : Type 0} (p q : X → Bool) (xs : List X) → filter p (filter q xs) ≡ filter (λ x. q x && p x) xs
filter-filter p q [] = refl
filter-filter p q (x ∷ xs) = filter-cond p (q x) x (filter q xs) ∙ ap (λ ys. cond (q x && p x) (x ∷ ys) ys) (filter-filter p q xs)

pub length-map : {X Y : Type 0} (f : X → Y) (xs : List X) → length (map f xs) ≡ length xs
length-map f [] = refl
length-map f (x ∷ xs) = ap suc (length-map f xs)

pub count-map : {X Y : Type 0} (f : X → Y) (p : Y → Bool) (xs : List X) → length (filter p (map f xs)) ≡ length (filter (λ x. p (f x)) xs)
count-map f p xs = ap length (filter-map f p xs) ∙ length-map f (filter (λ x. p (f x)) xs)

-- ---- of two tests

-- tests that agree on each element keep the same
pub filter_each : {X : Type 0} (p q : X → Bool) (xs : List X) → AllByRecursion (λ x. p x ≡ q x) xs → filter p xs ≡ filter q xs
filter_each p q [] h = refl
filter_each p q (x ∷ xs) h = λ i. cond (h.0 i) (x ∷ filter_each p q xs h.1 i) (filter_each p q xs h.1 i)

pub each_weaker : {X : Type 0} (P Q : X → Type 0) → ((x : X) → P x → Q x) → (xs : List X) → AllByRecursion P xs → AllByRecursion Q xs
each_weaker P Q h [] a = tt
each_weaker P Q h (x ∷ xs) a = (h x a.0, each_weaker P Q h xs a.1)
