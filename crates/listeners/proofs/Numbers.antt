-- The number of a text of digits, digit by digit.
use Rattle.std.proofs.Common.{◌≡◌, ℕ, ◌+◌, ◌-◌, ◌*◌, ◌≤◌, ◌<◌, ◌&&◌, Bool, true, false, cond, List, [], ◌∷◌, length, Some, None, option_and_then, ap, ◌∙◌, refl, arith}
use Rattle.std.specs.List.{list_all}
use Rattle.std.proofs.lemmas.Bool.{le-leb, lt-leb}
use Rattle.std.proofs.lemmas.Bool.Decides.{nat_tests}
use Rattle.listeners.specs.Order.{is_digit, decimal_after}
use Rattle.listeners.specs.Working.Numbers.{if_near, near_of, read_after}

-- the text has a digit at least
pub near_is_read : (text : List ℕ) → 0 < length text → near_of text ≡ read_after 0 text
near_is_read [] some = absurd (omega arith)
near_is_read (b ∷ bs) some =
    ap (λ c. option_and_then if_near (cond (c && list_all is_digit (b ∷ bs)) (Some (decimal_after 0 (b ∷ bs))) None)) (le-leb 1 (length (b ∷ bs)) (omega arith))
    ∙ by_digits (list_all is_digit (b ∷ bs))
  where
    by_digits : (c : Bool) → option_and_then if_near (cond c (Some (decimal_after 0 (b ∷ bs))) None) ≡ cond c (if_near (decimal_after 0 (b ∷ bs))) None
    by_digits true = refl
    by_digits false = refl

pub near_of_none : (text : List ℕ) → length text ≡ 0 → near_of text ≡ None
near_of_none [] none = refl
near_of_none (b ∷ bs) none = absurd (omega arith)

-- a digit more
pub read_digit : (n b : ℕ) (bs : List ℕ) → is_digit b ≡ true → read_after n (b ∷ bs) ≡ read_after (n * 10 + (b - 48)) bs
read_digit n b bs digit = ap (λ c. cond (c && list_all is_digit bs) (if_near (decimal_after (n * 10 + (b - 48)) bs)) None) digit

pub read_other : (n b : ℕ) (bs : List ℕ) → is_digit b ≡ false → read_after n (b ∷ bs) ≡ None
read_other n b bs other = ap (λ c. cond (c && list_all is_digit bs) (if_near (decimal_after (n * 10 + (b - 48)) bs)) None) other

-- what is too great stays so
le_decimal_after : (n : ℕ) (bs : List ℕ) → n ≤ decimal_after n bs
le_decimal_after n [] = omega arith
le_decimal_after n (b ∷ bs) = omega (arith, le_decimal_after (n * 10 + (b - 48)) bs)

if_near_none : (n : ℕ) → 2147483648 < n → if_near n ≡ None
if_near_none n great = ap (λ c. cond c (Some n) None) (lt-leb n 2147483648 great)

pub read_great : (n : ℕ) (bs : List ℕ) → 2147483648 < n → read_after n bs ≡ None
read_great n bs great = by_digits (list_all is_digit bs)
  where
    by_digits : (c : Bool) → cond c (if_near (decimal_after n bs)) None ≡ None
    by_digits true = if_near_none (decimal_after n bs) (omega (arith, le_decimal_after n bs))
    by_digits false = refl

pub read_all : (n : ℕ) (bs : List ℕ) → length bs ≡ 0 → n ≤ 2147483648 → read_after n bs ≡ Some n
read_all n [] none near = ap (λ c. cond c (Some n) None) (le-leb n 2147483648 near)
read_all n (b ∷ bs) none near = absurd (omega arith)

-- each digit is one of a byte's
pub digit_low : (b : ℕ) → is_digit b ≡ true → 48 ≤ b
digit_low b digit = grind (arith, nat_tests)

pub digit_high : (b : ℕ) → is_digit b ≡ true → b ≤ 57
digit_high b digit = grind (arith, nat_tests)
