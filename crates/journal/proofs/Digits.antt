-- Numbers in decimal digits.
use Rattle.std.proofs.Common.{◌≡◌, inl, inr, ℕ, zero, suc, ◌+◌, ◌-◌, ◌*◌, ◌/◌, ◌%◌, ◌^◌, ◌<◌, ◌≤◌, List, [], ◌∷◌, ◌++◌, length, get_or, refl, ◌∙◌, ap, arith, length-append}
use Rattle.std.proofs.Math.Nat.{pow-suc, pow-le-pow_right}
use Rattle.std.proofs.lemmas.List.{same_from_push, get_or_append_left, get_or_at}
use Rattle.std.proofs.lemmas.Bool.{cases_lt}
use Rattle.journal.specs.Format.{digits}

pub length-digits : (width number : ℕ) → length (digits width number) ≡ width
unfolding digits
length-digits zero number = refl
length-digits (suc width) number = omega (arith, length-append (digits width (number / 10)) ((48 + number % 10) ∷ []), length-digits width (number / 10))

-- one digit more
pub digits_more : (width number digit : ℕ) → digit < 10 → digits (suc width) (number * 10 + digit) ≡ digits width number ++ (48 + digit) ∷ []
unfolding digits
digits_more width number digit small =
    let front : (number * 10 + digit) / 10 ≡ number = omega arith in
    let last : (number * 10 + digit) % 10 ≡ digit = omega arith in
    ap (λ n. digits width n ++ (48 + (number * 10 + digit) % 10) ∷ []) front ∙ ap (λ d. digits width number ++ (48 + d) ∷ []) last

pub digits_next : (width number digit : ℕ) → digit < 10 → digits (width + 1) (number * 10 + digit) ≡ digits width number ++ (48 + digit) ∷ []
digits_next width number digit small = let same : width + 1 ≡ suc width = omega arith in ap (λ w. digits w (number * 10 + digit)) same ∙ digits_more width number digit small

pub digits_step : (width number : ℕ) → 0 < width → digits width number ≡ digits (width - 1) (number / 10) ++ (48 + number % 10) ∷ []
unfolding digits
digits_step zero number some = absurd (omega arith)
digits_step (suc width) number some = let same : width ≡ suc width - 1 = omega arith in ap (λ w. digits w (number / 10) ++ (48 + number % 10) ∷ []) same

-- the number is that of its digits
pub same_digits : (width m n : ℕ) → m < 10 ^ width → n < 10 ^ width → digits width m ≡ digits width n → m ≡ n
unfolding digits
same_digits zero m n small_m small_n same = omega arith
same_digits (suc width) m n small_m small_n same =
    let pow = pow-suc 10 width in
    let parts = same_from_push (digits width (m / 10)) (digits width (n / 10)) (48 + m % 10) (48 + n % 10) same in
    let front : m / 10 ≡ n / 10 = same_digits width (m / 10) (n / 10) (omega arith) (omega arith) parts.0 in
    let last = parts.1 in
    omega arith

-- each of them is a digit
pub is_digit : (width number i : ℕ) → i < width → (48 ≤ get_or (digits width number) i 0) × (get_or (digits width number) i 0 ≤ 57)
unfolding digits
is_digit zero number i within = absurd (omega arith)
is_digit (suc width) number i within = elim (cases_lt i width) [
  | inl before ↦
      let earlier = is_digit width (number / 10) i before in
      let same : get_or (digits width (number / 10) ++ (48 + number % 10) ∷ []) i 0 ≡ get_or (digits width (number / 10)) i 0 = get_or_append_left _ _ 0 i (omega (arith, length-digits width (number / 10))) in
      (omega arith, omega arith)
  | inr last ↦
      let same : get_or (digits width (number / 10) ++ (48 + number % 10) ∷ []) i 0 ≡ 48 + number % 10 = get_or_at _ _ [] 0 i (omega (arith, length-digits width (number / 10))) in
      (omega arith, omega arith)
]

pub no_digits : (width number : ℕ) → width ≡ 0 → digits width number ≡ []
unfolding digits
no_digits zero number none = refl
no_digits (suc width) number none = absurd (omega arith)

-- what is no digit stands in no number
pub not_digits : (text : List ℕ) (i : ℕ) → i < length text → ((48 ≤ get_or text i 0) → (get_or text i 0 ≤ 57) → ⊥) → (number : ℕ) → text ≡ digits (length text) number → ⊥
not_digits text i within bad number same =
    let digit = is_digit (length text) number i within in
    let is : get_or text i 0 ≡ get_or (digits (length text) number) i 0 = ap (λ l. get_or l i 0) same in
    bad (omega arith) (omega arith)

pub pow_next : (i : ℕ) → 10 ^ (i + 1) ≡ 10 ^ i * 10
pow_next i = let same : i + 1 ≡ suc i = omega arith in ap (λ k. 10 ^ k) same ∙ pow-suc 10 i

pub pow_room : (i : ℕ) → i < 15 → 10 ^ i ≤ 10 ^ 14
pow_room i small = pow-le-pow_right {n = 10} (omega arith) {i = i} {j = 14} (omega arith)
