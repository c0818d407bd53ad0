-- Signs that stand in no key.
use Rattle.std.proofs.Common.{◌≡◌, ℕ, ◌==◌, ◌≤◌, Bool, true, false, cond, not, ◌&&◌, List, [], ◌∷◌, length, get_or, nat_le, sym, ap, refl, arith}
use Rattle.std.specs.List.{list_all, All}
use Rattle.std.specs.Str.{is_utf8}
use Rattle.std.specs.Cmp.{first_so, second_so}
use Rattle.std.proofs.lemmas.Bool.{leb-true}
use Rattle.std.proofs.lemmas.Bool.Decides.{nat_tests}
use Rattle.std.proofs.lemmas.List.Sums.{AllPass-from_list_all}
use Rattle.std.proofs.lemmas.List.Elements.{All-weaker}
use Rattle.std.specs.Prelude.{nat_lt}
use Rattle.std.specs.declared.cmp.Ordering.{Ordering}
use Rattle.std.specs.declared.cmp.Ordering.TheVariants.{Less, Equal, Greater}
use Rattle.std.specs.Ordering.{nat_cmp, ordering_then}
use Rattle.tree_model.specs.declared.limits.TheConstants.{MAX_KEY_BYTES}
use Rattle.tree_model.specs.Key.{Key, key_cmp, is_key, is_key_byte}
use Rattle.path_capture.specs.Pattern.{literal, capture, part_of_text}

is_not : (b : Bool) → not b ≡ true → b ≡ false
is_not true h = sym h
is_not false h = refl

-- what is_key_byte says of the signs, one after another
signs : (b : ℕ) → is_key_byte b ≡ true → (not (b == 46) && (not (b == 36) && (not (b == 35) && (not (b == 91) && (not (b == 93) && (not (b == 47) && true)))))) ≡ true
signs b h = second_so (nat_le 32 b && not (b == 127)) _ h

no_slash : (b : ℕ) → is_key_byte b ≡ true → (b == 47) ≡ false
no_slash b h =
    let after_93 = second_so (not (b == 93)) _ (second_so (not (b == 91)) _ (second_so (not (b == 35)) _ (second_so (not (b == 36)) _ (second_so (not (b == 46)) _ (signs b h))))) in
    is_not (b == 47) (first_so _ _ after_93)

no_dollar : (b : ℕ) → is_key_byte b ≡ true → (b == 36) ≡ false
no_dollar b h = is_not (b == 36) (first_so _ _ (second_so (not (b == 46)) _ (signs b h)))

key_bytes : (k : Key) → is_key k ≡ true → list_all is_key_byte k ≡ true
unfolding is_key
key_bytes k h = second_so (nat_le 1 (length k) && nat_le (length k) MAX_KEY_BYTES) _ (first_so _ (is_utf8 k) h)

-- no byte that may stand in a key is a slash
pub bytes_without_slash : (bytes : List ℕ) → list_all is_key_byte bytes ≡ true → All (λ b. (b == 47) ≡ false) bytes
bytes_without_slash bytes h = All-weaker (λ b. is_key_byte b ≡ true) (λ b. (b == 47) ≡ false) no_slash bytes (AllPass-from_list_all is_key_byte bytes h)

-- no byte of a key is a slash
pub key_without_slash : (k : Key) → is_key k ≡ true → All (λ b. (b == 47) ≡ false) k
key_without_slash k h = bytes_without_slash k (key_bytes k h)

key_length : (k : Key) → is_key k ≡ true → 1 ≤ length k
unfolding is_key
key_length k h = leb-true 1 (length k) (first_so _ _ (first_so _ _ (first_so _ (is_utf8 k) h)))

pub not_zero : (n : ℕ) → 1 ≤ n → (n == 0) ≡ false
not_zero n h = grind (arith, nat_tests)

-- a key is not empty
pub key_is_not_empty : (k : Key) → is_key k ≡ true → (length k == 0) ≡ false
key_is_not_empty k h = not_zero (length k) (key_length k h)

decided : (b : ℕ) (o : Ordering) → (b == 36) ≡ false → nat_cmp b 36 ≡ ordering_then (nat_cmp b 36) o
decided b o h =
    elim (nat_lt b 36) as (λ t. cond t Less (cond (b == 36) Equal Greater) ≡ ordering_then (cond t Less (cond (b == 36) Equal Greater)) o) [
      | true ↦ refl
      | false ↦ rw h refl
    ]

-- beside a text that begins with a dollar sign, the first byte of a key decides
pub key_beside_dollar : (k : Key) (name : List ℕ) → is_key k ≡ true → nat_cmp (get_or k 0 0) 36 ≡ key_cmp k (36 ∷ name)
key_beside_dollar [] name h = refl
key_beside_dollar (b ∷ k) name h = decided b _ (no_dollar b (first_so _ _ (key_bytes (b ∷ k) h)))

-- a key is what its text names
pub part_of_key : (k : Key) → is_key k ≡ true → part_of_text k ≡ literal k
part_of_key [] h = refl
part_of_key (b ∷ k) h = ap (λ t. cond t (capture k) (literal (b ∷ k))) (no_dollar b (first_so _ _ (key_bytes (b ∷ k) h)))
