-- The fronts of two texts, where they are not the same, stand to each other as the texts; and a text that its
-- front distinguishes from each key is the key with the same front.
use Rattle.std.proofs.Common.{◌≡◌, ◌≢◌, ℕ, zero, suc, ◌+◌, ◌*◌, ◌^◌, ◌<◌, ◌≤◌, true, [], ◌∷◌, length, nat_le, not, ◌==◌, ◌&&◌, get_or, inl, inr, sym, ap, ◌∙◌, refl, arith}
use Rattle.std.specs.declared.cmp.Ordering.{Ordering}
use Rattle.std.specs.declared.cmp.Ordering.TheVariants.{Less, Equal, Greater}
use Rattle.std.specs.Ordering.{nat_cmp, ordering_then, ordering_reverse}
use Rattle.std.specs.Cmp.{nat_cmp_is}
use Rattle.std.specs.Int.{w64, from_be_bytes}
use Rattle.std.specs.List.{list_all}
use Rattle.std.specs.Str.{is_utf8}
use Rattle.std.specs.Cmp.{first_so, second_so}
use Rattle.std.proofs.lemmas.Bool.{cases_lt, leb-true}
use Rattle.std.proofs.lemmas.Cmp.{ranked, tied_itself}
use Rattle.std.proofs.Math.Nat.{mul-le-mul_right, pow-succ', eq-or-lt_of_le}
use Rattle.tree_model.specs.declared.limits.TheConstants.{MAX_KEY_BYTES}
use Rattle.tree_model.specs.Key.{Key, key_cmp, is_key, is_key_byte}
use Rattle.tree_model.proofs.Orders.{keys_total}
use Rattle.json_tree.specs.Working.Front.{IsFrontOf, IsTold}

-- the number that the first n bytes spell, 0 for one that is not there
abbrev spelt : ℕ → Key → ℕ
spelt zero k = 0
spelt (suc n) [] = 0
spelt (suc n) (b ∷ k) = b * 256 ^ n + spelt n k

abbrev AreBytes : Key → Type 0
AreBytes k = (i : ℕ) → get_or k i 0 < 256

below_next : (p b r : ℕ) → b < 256 → r < p → b * p + r < 256 * p
below_next p b r byte rest = let more : (b + 1) * p ≤ 256 * p = mul-le-mul_right p (omega arith) in omega arith

none_below : (n : ℕ) → 0 < 256 ^ n
none_below zero = omega arith
none_below (suc n) = rw pow-succ' (omega (arith, none_below n))

spelt_below : (n : ℕ) (k : Key) → AreBytes k → spelt n k < 256 ^ n
spelt_below zero k bytes = omega arith
spelt_below (suc n) [] bytes = none_below (suc n)
spelt_below (suc n) (b ∷ k) bytes = rw pow-succ' (below_next (256 ^ n) b (spelt n k) (bytes 0) (spelt_below n k (λ i. bytes (suc i))))

-- of two numbers with a higher part each, the less has no greater higher part
higher_within : (p a b r s : ℕ) → s < p → a * p + r < b * p + s → a ≤ b
higher_within p a b r s rest less = elim (cases_lt b a) [ inl above ↦ (let more : (b + 1) * p ≤ a * p = mul-le-mul_right p (omega arith) in omega arith) | inr within ↦ within ]

spelt_less : (n : ℕ) (k l : Key) → AreBytes k → AreBytes l → spelt n k < spelt n l → key_cmp k l ≡ Less
spelt_less zero k l ks ls less = absurd (omega arith)
spelt_less (suc n) [] [] ks ls less = absurd (omega arith)
spelt_less (suc n) [] (b ∷ l) ks ls less = refl
spelt_less (suc n) (a ∷ k) [] ks ls less = absurd (omega arith)
spelt_less (suc n) (a ∷ k) (b ∷ l) ks ls less =
    let behind : AreBytes l = λ i. ls (suc i) in
    elim (eq-or-lt_of_le (higher_within (256 ^ n) a b (spelt n k) (spelt n l) (spelt_below n l behind) less)) [
      | inl same ↦ (
          let worth = ap (λ c. c * 256 ^ n) same in
          ap (λ o. ordering_then o (key_cmp k l)) (sym (nat_cmp_is a b Equal same)) ∙ spelt_less n k l (λ i. ks (suc i)) behind (omega arith)
          )
      | inr before ↦ ap (λ o. ordering_then o (key_cmp k l)) (sym (nat_cmp_is a b Less before))
    ]

is_spelt : (k : Key) → from_be_bytes w64 k ≡ spelt 8 k
is_spelt [] = refl
is_spelt (a ∷ []) = omega arith
is_spelt (a ∷ b ∷ []) = omega arith
is_spelt (a ∷ b ∷ c ∷ []) = omega arith
is_spelt (a ∷ b ∷ c ∷ d ∷ []) = omega arith
is_spelt (a ∷ b ∷ c ∷ d ∷ e ∷ []) = omega arith
is_spelt (a ∷ b ∷ c ∷ d ∷ e ∷ f ∷ []) = omega arith
is_spelt (a ∷ b ∷ c ∷ d ∷ e ∷ f ∷ g ∷ []) = omega arith
is_spelt (a ∷ b ∷ c ∷ d ∷ e ∷ f ∷ g ∷ h ∷ k) = omega arith

pub front_less : (k l : Key) (m n : ℕ) → IsFrontOf k m → IsFrontOf l n → m < n → key_cmp k l ≡ Less
front_less k l m n h g less =
    let left : m ≡ spelt 8 k = h.is ∙ is_spelt k in
    let right : n ≡ spelt 8 l = g.is ∙ is_spelt l in
    spelt_less 8 k l h.bytes g.bytes (rw (← left, ← right) less)

pub by_fronts : (k l : Key) (m n : ℕ) (o : Ordering) → IsFrontOf k m → IsFrontOf l n → o ≡ nat_cmp m n → o ≢ Equal → o ≡ key_cmp k l
by_fronts k l m n Less h g is apart = sym (front_less k l m n h g (ranked m n Less is))
by_fronts k l m n Equal h g is apart = absurd (apart refl)
by_fronts k l m n Greater h g is apart = sym (keys_total.antisymm k l ∙ ap ordering_reverse (front_less l k n m g h (ranked m n Greater is)))

-- ---- texts of the same front

-- the last byte of a text, if there is one, is not 0
abbrev Ends : Key → Type 0
Ends l = (m : ℕ) → m + 1 ≡ length l → 0 < get_or l m 0

ends_behind : (b : ℕ) (l : Key) → Ends (b ∷ l) → Ends l
ends_behind b l ends = λ m at. ends (suc m) (omega (arith, at))

-- a digit that is not 0 is worth something
worth_some : (b p : ℕ) → 0 < b → 0 < p → 0 < b * p
worth_some b p some place = let more : 1 * p ≤ b * p = mul-le-mul_right p (omega arith) in omega arith

spelt_some : (n : ℕ) (l : Key) (m : ℕ) → length l ≤ n → m + 1 ≡ length l → 0 < get_or l m 0 → 0 < spelt n l
spelt_some zero l m fits at some = absurd (omega arith)
spelt_some (suc n) [] m fits at some = absurd (omega arith)
spelt_some (suc n) (b ∷ l) zero fits at some = let more = worth_some b (256 ^ n) some (none_below n) in omega arith
spelt_some (suc n) (b ∷ l) (suc m) fits at some = let more = spelt_some n l m (omega arith) (omega arith) some in omega arith

-- of two equal numbers with a higher part each, that of the one is not above that of the other
higher_same : (p a b r s : ℕ) → s < p → a * p + r ≡ b * p + s → a ≤ b
higher_same p a b r s rest same = elim (cases_lt b a) [ inl above ↦ (let more : (b + 1) * p ≤ a * p = mul-le-mul_right p (omega arith) in omega arith) | inr within ↦ within ]

key_bytes : (k : Key) → is_key k ≡ true → list_all is_key_byte k ≡ true
unfolding is_key
key_bytes k h = second_so (nat_le 1 (length k) && nat_le (length k) MAX_KEY_BYTES) _ (first_so _ (is_utf8 k) h)

key_byte_some : (b : ℕ) → is_key_byte b ≡ true → 0 < b
key_byte_some b h = let least : 32 ≤ b = leb-true 32 b (first_so _ _ (first_so (nat_le 32 b && not (b == 127)) _ h)) in omega arith

spelt_same : (n : ℕ) (k l : Key) → AreBytes k → AreBytes l → list_all is_key_byte k ≡ true → length l < n → Ends l → spelt n k ≡ spelt n l → k ≡ l
spelt_same zero k l ks ls key short ends same = absurd (omega arith)
spelt_same (suc n) [] [] ks ls key short ends same = refl
spelt_same (suc n) [] (b ∷ l) ks ls key short ends same =
    let some = spelt_some (suc n) (b ∷ l) (length l) (omega arith) (omega arith) (ends (length l) (omega arith)) in
    absurd (omega arith)
spelt_same (suc n) (a ∷ k) [] ks ls key short ends same =
    let some = worth_some a (256 ^ n) (key_byte_some a (first_so _ _ key)) (none_below n) in
    absurd (omega arith)
spelt_same (suc n) (a ∷ k) (b ∷ l) ks ls key short ends same =
    let before : AreBytes k = λ i. ks (suc i) in
    let behind : AreBytes l = λ i. ls (suc i) in
    let low = higher_same (256 ^ n) a b (spelt n k) (spelt n l) (spelt_below n l behind) same in
    let high = higher_same (256 ^ n) b a (spelt n l) (spelt n k) (spelt_below n k before) (sym same) in
    let first : a ≡ b = omega arith in
    let worth = ap (λ c. c * 256 ^ n) first in
    let rest = spelt_same n k l before behind (second_so (is_key_byte a) _ key) (omega arith) (ends_behind b l ends) (omega arith) in
    λ i. first i ∷ rest i

by_front : (k l : Key) (m n : ℕ) → IsFrontOf k m → IsFrontOf l n → m ≡ n → is_key k ≡ true → IsTold l → k ≡ l
by_front k l m n h g same key told =
    spelt_same 8 k l h.bytes g.bytes (key_bytes k key) told.short told.ends (sym (is_spelt k) ∙ sym h.is ∙ same ∙ g.is ∙ is_spelt l)

pub told_by_front : (k l : Key) (m n : ℕ) → IsFrontOf k m → IsFrontOf l n → Equal ≡ nat_cmp m n → is_key k ≡ true → IsTold l → Equal ≡ key_cmp k l
told_by_front k l m n h g tie key told =
    sym (tied_itself keys_total k) ∙ ap (λ (x : Key). key_cmp k x) (by_front k l m n h g (ranked m n Equal tie) key told)
