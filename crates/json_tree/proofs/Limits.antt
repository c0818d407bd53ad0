-- Which keys, texts and numbers are lawful.
use Rattle.std.proofs.Common.{◌≡◌, ℕ, ◌+◌, ◌≤◌, ◌<◌, ◌^◌, ◌%◌, Bool, true, false, ◌&&◌, nat_le, List, [], ◌∷◌, length, ◌∙◌, refl, arith}
use Rattle.std.specs.Prelude.{decimal}
use Rattle.std.specs.List.{list_all}
use Rattle.std.specs.Str.{IsUtf8}
use Rattle.std.specs.Cmp.{first_so}
use Rattle.std.proofs.lemmas.Bool.{leb-true, le-leb}
use Rattle.std.proofs.lemmas.Bool.Decides.{nat_tests}
use Rattle.std.proofs.lemmas.Fmt.{decimal_by_steps, decimal_nonempty, length-decimal-le, IsAscii-decimal}
use Rattle.std.proofs.lemmas.List.Folds.{list_all-append}
use Rattle.std.proofs.lemmas.Str.{is_utf8-from_IsUtf8, IsUtf8-from_ascii}
use Rattle.tree_model.specs.declared.limits.TheConstants.{MAX_KEY_BYTES, MAX_TEXT_BYTES}
use Rattle.tree_model.specs.Key.{Key, is_key, is_key_byte}
use Rattle.tree_model.specs.Primitive.{is_text}

both_so : (a b : Bool) → a ≡ true → b ≡ true → (a && b) ≡ true
both_so true b h g = g
both_so false b h g = cc

and_true : (a b : Bool) → b ≡ true → (a && b) ≡ a
and_true true b h = h
and_true false b h = refl

-- ---- texts

-- of UTF-8, the length alone decides
pub is_text-utf8 : (s : List ℕ) → IsUtf8 s → is_text s ≡ nat_le (length s) MAX_TEXT_BYTES
unfolding is_text
is_text-utf8 s u = and_true _ _ (is_utf8-from_IsUtf8 s u)

pub is_text_from : (s : List ℕ) → IsUtf8 s → length s ≤ MAX_TEXT_BYTES → is_text s ≡ true
is_text_from s u h = is_text-utf8 s u ∙ le-leb (length s) MAX_TEXT_BYTES h

pub text_length : (s : List ℕ) → is_text s ≡ true → length s ≤ MAX_TEXT_BYTES
unfolding is_text
text_length s h = leb-true (length s) MAX_TEXT_BYTES (first_so _ _ h)

-- ---- keys

-- of UTF-8, the length and each byte decide
pub is_key-utf8 : (k : Key) → IsUtf8 k → is_key k ≡ (nat_le 1 (length k) && nat_le (length k) MAX_KEY_BYTES && list_all is_key_byte k)
unfolding is_key
is_key-utf8 k u = and_true _ _ (is_utf8-from_IsUtf8 k u)

digit_may_stand : (d : ℕ) → d < 10 → is_key_byte (48 + d) ≡ true
digit_may_stand d h = grind (arith, nat_tests)

digits_may_stand : (n : ℕ) → n < 2 ^ 64 → list_all is_key_byte (decimal n) ≡ true
digits_may_stand n h = decimal_by_steps (λ _ ds. list_all is_key_byte ds ≡ true)
    (λ d small. both_so _ _ (digit_may_stand d small) refl)
    (λ m ds _ front. list_all-append is_key_byte ds ((48 + m % 10) ∷ []) ∙ both_so _ _ front (both_so _ _ (digit_may_stand (m % 10) (omega arith)) refl)) n h

-- the digits of an index in an array are a lawful key
pub is_key-decimal : (n : ℕ) → n < 2 ^ 64 → is_key (decimal n) ≡ true
is_key-decimal n h =
    is_key-utf8 (decimal n) (IsUtf8-from_ascii (decimal n) (IsAscii-decimal n h))
    ∙ both_so _ _ (both_so _ _ (le-leb 1 (length (decimal n)) (decimal_nonempty n h)) (le-leb (length (decimal n)) MAX_KEY_BYTES (omega (arith, length-decimal-le 20 n (omega arith) (omega arith) h)))) (digits_may_stand n h)
