-- The JSON value of a file, from what serde_json says of its bytes.
use Rattle.std.proofs.Common.{◌≡◌, ℕ, Bool, true, false, cond, List, Some, None, refl, ap, ◌∙◌}
use Rattle.std.specs.Str.{IsUtf8, is_utf8}
use Rattle.std.proofs.lemmas.Str.{IsUtf8-from_is_utf8, is_utf8-from_IsUtf8}
use Rattle.serde_json.specs.Data.{Data}
use Rattle.serde_json.specs.Read.{read}
use Rattle.tokens.specs.Tokens.{json_of}

pub value_is : (bytes : List ℕ) (d : Data) → IsUtf8 bytes → read bytes ≡ Some d → json_of bytes ≡ Some d
unfolding json_of
value_is bytes d u is = ap (λ b. cond b (read bytes) None) (is_utf8-from_IsUtf8 bytes u) ∙ is

pub value_is_bad : (bytes : List ℕ) → (IsUtf8 bytes → read bytes ≡ None) → json_of bytes ≡ None
unfolding json_of
value_is_bad bytes bad = by_utf8 (is_utf8 bytes) refl
  where
    by_utf8 : (b : Bool) → is_utf8 bytes ≡ b → cond b (read bytes) None ≡ None
    by_utf8 false u = refl
    by_utf8 true u = bad (IsUtf8-from_is_utf8 bytes u)
