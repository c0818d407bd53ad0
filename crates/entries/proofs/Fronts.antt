-- What texts begin with: a word, or a number and a space.
use Rattle.std.proofs.Common.{◌≡◌, ℕ, ◌+◌, ◌<◌, ◌^◌, true, false, List, ◌∷◌, ◌++◌, length, take, drop, get_or, length-append, Option, Some, None, Bor, inl, inr, ◌⊎◌, sym, ap, subst, ◌∙◌, arith, nat_eq}
use Rattle.std.specs.Prelude.{decimal, slice_index, MatchOption, IfSome, IfNone}
use Rattle.std.specs.Cmp.Lexicographic.{pointwise}
use Rattle.std.specs.Str.{IsUtf8}
use Rattle.std.proofs.Math.Seq.{take-append_seam, get_or-append_seam}
use Rattle.std.proofs.lemmas.Bool.{cases_order}
use Rattle.std.proofs.lemmas.Bool.Decides.{Decides-eqb}
use Rattle.std.proofs.lemmas.Fmt.{decimal_is_IsNumeral, IsAscii-decimal, decimal_injective}
use Rattle.std.proofs.lemmas.List.{get_or_append_left, append_cancel_left}
use Rattle.std.specs.Int.{IsInRange}
use Rattle.std.proofs.lemmas.Slice.Eq.{strip_prefix_is}
use Rattle.std.proofs.lemmas.Str.{IsUtf8-from_ascii}
use Rattle.std.proofs.lemmas.Str.Parse.{digit_at}
use Rattle.memchr.specs.Find.{NoneBefore, Nowhere, Passes, is_byte}
use Rattle.entries.specs.Entry.{numbered}

-- ---- words

-- what `strip_prefix` says of a text
abbrev IsStripped : List ℕ → List ℕ → Option (Bor (List ℕ)) → Type 0
IsStripped s p r = MatchOption r (pointwise nat_eq (take (length p) s) p ≡ false) (λ x. (pointwise nat_eq (take (length p) s) p ≡ true) × (x.now ≡ drop (length p) s) × (length x.now + length p ≡ length s))

pub stripped_some : (s p : List ℕ) (r : Option (Bor (List ℕ))) → IsStripped s p r → IfSome r (λ x. s ≡ p ++ x.now)
stripped_some s p None m = tt
stripped_some s p (Some x) m = strip_prefix_is Decides-eqb s p (Some x) m

pub stripped_none : (s p : List ℕ) (r : Option (Bor (List ℕ))) → IsStripped s p r → IfNone r ((rest : List ℕ) → s ≡ p ++ rest → ⊥)
stripped_none s p None m = strip_prefix_is Decides-eqb s p None m
stripped_none s p (Some x) m = tt

-- what holds, holds if there is nothing
pub if_none : {X : Type 0} (P : Type 0) (r : Option X) → P → IfNone r P
if_none P None p = p
if_none P (Some x) p = tt

-- ---- numbers

pub decimal_is_utf8 : (n : ℕ) → n < 2 ^ 64 → IsUtf8 (decimal n)
decimal_is_utf8 n h = IsUtf8-from_ascii (decimal n) (IsAscii-decimal n h)

space_is_behind : (n : ℕ) (rest : List ℕ) → is_byte 32 (slice_index (numbered n rest) (length (decimal n))) ≡ true
space_is_behind n rest = ap (is_byte 32) (get_or-append_seam (decimal n) 32 rest 0)

within_numbered : (n : ℕ) (rest : List ℕ) → length (decimal n) < length (numbered n rest)
within_numbered n rest = let both = length-append (decimal n) (32 ∷ rest) in omega arith

-- a text without a space begins with no number and space
pub no_space : (text : List ℕ) → Nowhere (Passes (is_byte 32) text) 0 (length text) → (n : ℕ) (rest : List ℕ) → text ≡ numbered n rest → ⊥
no_space text nowhere n rest is = nowhere (length (decimal n)) (omega arith) (subst (λ (t : List ℕ). length (decimal n) < length t) (sym is) (within_numbered n rest)) (subst (λ (t : List ℕ). is_byte 32 (slice_index t (length (decimal n))) ≡ true) (sym is) (space_is_behind n rest))

no_space_in_digits : (n : ℕ) (rest : List ℕ) (k : ℕ) → n < 2 ^ 64 → k < length (decimal n) → is_byte 32 (slice_index (numbered n rest) k) ≡ true → ⊥
no_space_in_digits n rest k fits within space =
    let digit = digit_at (decimal n) k (decimal_is_IsNumeral n fits).0.1 within in
    let same = get_or_append_left (decimal n) (32 ∷ rest) 0 k within in
    let byte = (Decides-eqb (slice_index (numbered n rest) k) 32).0 space in
    omega arith

-- the first space stands behind the digits
pub digits_before : (n : ℕ) (rest : List ℕ) (k : ℕ) → n < 2 ^ 64 → NoneBefore (Passes (is_byte 32) (numbered n rest)) 0 (length (numbered n rest)) k → is_byte 32 (slice_index (numbered n rest) k) ≡ true → take k (numbered n rest) ≡ decimal n
digits_before n rest k fits first space =
    let is : k ≡ length (decimal n) = by_order (cases_order k (length (decimal n))) in
    ap (λ (i : ℕ). take i (numbered n rest)) is ∙ take-append_seam (decimal n) (32 ∷ rest)
  where
    by_order : (k ≡ length (decimal n)) ⊎ ((k < length (decimal n)) ⊎ (length (decimal n) < k)) → k ≡ length (decimal n)
    by_order (inl e) = e
    by_order (inr (inl l)) = absurd (no_space_in_digits n rest k fits l space)
    by_order (inr (inr m)) = absurd (first.before (length (decimal n)) (omega arith) m (space_is_behind n rest))

pub first_number : (text digits : List ℕ) (k : ℕ) → NoneBefore (Passes (is_byte 32) text) 0 (length text) k → is_byte 32 (slice_index text k) ≡ true → digits ≡ take k text → (n : ℕ) (rest : List ℕ) → n < 2 ^ 64 → text ≡ numbered n rest → digits ≡ decimal n
first_number text digits k first space front n rest fits is =
    front ∙ ap (take k) is
    ∙ digits_before n rest k fits
    (subst (λ (t : List ℕ). NoneBefore (Passes (is_byte 32) t) 0 (length t) k) is first)
    (subst (λ (t : List ℕ). is_byte 32 (slice_index t k) ≡ true) is space)

-- a text begins with at most one number and space
pub numbered_one : (m n : ℕ) (x y : List ℕ) → m < 2 ^ 64 → n < 2 ^ 64 → numbered m x ≡ numbered n y → (m ≡ n) × (x ≡ y)
numbered_one m n x y small other is =
    let first : NoneBefore (Passes (is_byte 32) (numbered m x)) 0 (length (numbered m x)) (length (decimal m)) = record {
      low = omega arith;
      high = within_numbered m x;
      before = λ k low before space. no_space_in_digits m x k small before space;
    } in
    let digits : decimal m ≡ decimal n = first_number (numbered m x) (decimal m) (length (decimal m)) first (space_is_behind m x) (sym (take-append_seam (decimal m) (32 ∷ x))) n y other is in
    (decimal_injective m n small other digits, same_rest (append_cancel_left (decimal m) (32 ∷ x) (32 ∷ y) (is ∙ ap (λ (ds : List ℕ). ds ++ 32 ∷ y) (sym digits))))
  where
    same_rest : 32 ∷ x ≡ 32 ∷ y → x ≡ y
    same_rest e = cc

-- it begins with a digit
pub first_digit : (n : ℕ) (rest : List ℕ) → n < 2 ^ 64 → IsInRange 48 57 (get_or (numbered n rest) 0 0)
first_digit n rest fits =
    let some = (decimal_is_IsNumeral n fits).0.0 in
    subst (IsInRange 48 57) (sym (get_or_append_left (decimal n) (32 ∷ rest) 0 0 some)) (digit_at (decimal n) 0 (decimal_is_IsNumeral n fits).0.1 some)
