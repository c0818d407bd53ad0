-- Runs of bytes that pass a test, and where a text may be cut.
use Rattle.std.proofs.Common.{◌≡◌, ℕ, ◌+◌, ◌<◌, ◌≤◌, ◌*◌, ◌-◌, suc, Bool, true, false, cond, ◌&&◌, ◌||◌, not, List, [], ◌∷◌, ◌++◌, length, take, drop, get_or, refl, sym, ap, subst, ◌∙◌, arith, drop-cons}
use Rattle.std.specs.List.{list_all}
use Rattle.std.specs.Char.{is_ascii_digit}
use Rattle.std.specs.Str.{IsUtf8, IsCharBoundary}
use Rattle.std.proofs.lemmas.Bool.Decides.{nat_tests}
use Rattle.std.proofs.lemmas.List.{length-take-le, take-append-drop}
use Rattle.std.proofs.lemmas.Str.{IsCharBoundary-at_seam, IsUtf8-past_char, encode_ascii}
use Rattle.expr_tokens.specs.Words.{is_blank, past_blanks, is_name_start, is_name_byte, first_is, numeral_from, numeral, greatest}
use Rattle.expr_tokens.specs.Quoted.{is_quote}
use Rattle.expr_tokens.specs.Working.Scanning.{IsRun}

pub and_true : (a b : Bool) → (a && b) ≡ true → (a ≡ true) × (b ≡ true)
and_true true b e = (refl, e)
and_true false b e = absurd cc

pub or_false : (a b : Bool) → (a || b) ≡ false → (a ≡ false) × (b ≡ false)
or_false true b e = absurd cc
or_false false b e = (refl, e)

pub not_true : (a : Bool) → not a ≡ true → a ≡ false
not_true true e = absurd cc
not_true false e = refl

-- the tests are of ASCII

pub digit_ascii : (c : ℕ) → is_ascii_digit c ≡ true → c < 128
digit_ascii c h = grind (arith, nat_tests)

pub start_ascii : (c : ℕ) → is_name_start c ≡ true → c < 128
start_ascii c h = grind (arith, nat_tests)

pub byte_ascii : (c : ℕ) → is_name_byte c ≡ true → c < 128
byte_ascii c h = grind (arith, nat_tests)

pub blank_ascii : (c : ℕ) → is_blank c ≡ true → c < 128
blank_ascii c h = grind (arith, nat_tests)

pub quote_ascii : (c : ℕ) → is_quote c ≡ true → c < 128
quote_ascii c h = grind (arith, nat_tests)

-- no byte begins two kinds of token

pub start_no_digit : (c : ℕ) → is_name_start c ≡ true → is_ascii_digit c ≡ false
start_no_digit c h = grind (arith, nat_tests)

pub quote_no_digit : (c : ℕ) → is_quote c ≡ true → is_ascii_digit c ≡ false
quote_no_digit c h = grind (arith, nat_tests)

pub quote_no_start : (c : ℕ) → is_quote c ≡ true → is_name_start c ≡ false
quote_no_start c h = grind (arith, nat_tests)

-- where a run ends, the text may be cut

module _ (p : ℕ → Bool) (ascii : (c : ℕ) → p c ≡ true → c < 128) where
  pub utf8_past : (xs ys : List ℕ) → list_all p xs ≡ true → IsUtf8 (xs ++ ys) → IsUtf8 ys
  utf8_past [] ys h u = u
  utf8_past (c ∷ xs) ys h u =
      let t = and_true (p c) (list_all p xs) h in
      utf8_past xs ys t.1 (IsUtf8-past_char (c ∷ (xs ++ ys)) (xs ++ ys) c u (ap (λ (z : List ℕ). z ++ (xs ++ ys)) (sym (encode_ascii c (ascii c t.0)))))

  pub seam : (text xs ys : List ℕ) → text ≡ xs ++ ys → list_all p xs ≡ true → IsUtf8 text → IsCharBoundary text (length xs)
  seam text xs ys e h u = IsCharBoundary-at_seam text xs ys e (utf8_past xs ys h (subst IsUtf8 e u))

  pub run_boundary : (text : List ℕ) (n : ℕ) → IsRun p text n → IsUtf8 text → IsCharBoundary text n
  run_boundary text n r u = subst (λ (i : ℕ). IsCharBoundary text i) (length-take-le n text r.within) (seam text (take n text) (drop n text) (sym (take-append-drop n text)) r.passes u)

-- blanks

past_all : (xs ys : List ℕ) → list_all is_blank xs ≡ true → past_blanks (xs ++ ys) ≡ past_blanks ys
past_all [] ys h = refl
past_all (c ∷ xs) ys h = let t = and_true (is_blank c) (list_all is_blank xs) h in ap (λ b. cond b (past_blanks (xs ++ ys)) (c ∷ (xs ++ ys))) t.0 ∙ past_all xs ys t.1

past_stop : (ys : List ℕ) → first_is is_blank ys ≡ false → past_blanks ys ≡ ys
past_stop [] h = refl
past_stop (c ∷ ys) h = ap (λ b. cond b (past_blanks ys) (c ∷ ys)) h

pub past_run : (text : List ℕ) (n : ℕ) → IsRun is_blank text n → drop n text ≡ past_blanks text
past_run text n r = sym (ap past_blanks (sym (take-append-drop n text)) ∙ past_all (take n text) (drop n text) r.passes ∙ past_stop (drop n text) r.stops)

-- numbers

pub numeral_grows : (n : ℕ) (cs : List ℕ) → n ≤ numeral_from n cs
numeral_grows n [] = omega arith
numeral_grows n (c ∷ cs) = omega (arith, numeral_grows (10 * n + (c - 48)) cs)

-- one more digit makes the number too large
pub digit_too_large : (value : ℕ) (digits : List ℕ) (i : ℕ) → i < length digits → numeral_from value (drop i digits) ≡ numeral_from 0 digits → greatest < 10 * value + (get_or digits i 0 - 48) → greatest < numeral digits
digit_too_large value digits i lt same large =
    let e : numeral_from value (drop i digits) ≡ numeral_from (10 * value + (get_or digits i 0 - 48)) (drop (suc i) digits) = ap (numeral_from value) (drop-cons digits i 0 lt) in
    let grows = numeral_grows (10 * value + (get_or digits i 0 - 48)) (drop (suc i) digits) in
    omega arith
