-- When a text is read as JSON.
use Rattle.std.proofs.Common.{◌≡◌, ℕ, ◌<◌, ◌≤◌, true, false, cond, ◌&&◌, List, length, Option, None, ap, ◌∙◌, refl, arith}
use Rattle.std.specs.Str.{IsUtf8, is_utf8}
use Rattle.std.proofs.lemmas.Bool.{le-leb, lt-leb}
use Rattle.std.proofs.lemmas.Str.{IsUtf8-from_is_utf8, is_utf8-from_IsUtf8}
use Rattle.serde_json.specs.Data.{Data}
use Rattle.serde_json.specs.Read.{read}
use Rattle.rules_reader.specs.declared.limits.TheConstants.{MAX_FILE_BYTES}
use Rattle.rules_reader.specs.Plain.{IsPlain}
use Rattle.rules_reader.specs.File.{json_of, ReadsAs}
use Rattle.rules_reader.proofs.Cuts.{has_plain, plain_long}

pub json_of-long : (bytes : List ℕ) → MAX_FILE_BYTES < length bytes → json_of bytes ≡ None
unfolding json_of
json_of-long bytes h = ap (λ b. cond (b && is_utf8 bytes) (read bytes) None) (lt-leb (length bytes) MAX_FILE_BYTES h)

pub json_of-short : (bytes : List ℕ) → length bytes ≤ MAX_FILE_BYTES → IsUtf8 bytes → json_of bytes ≡ read bytes
unfolding json_of
json_of-short bytes h u =
    ap (λ b. cond (b && is_utf8 bytes) (read bytes) None) (le-leb (length bytes) MAX_FILE_BYTES h)
    ∙ ap (λ b. cond b (read bytes) None) (is_utf8-from_IsUtf8 bytes u)

pub json_of-refused : (bytes : List ℕ) → length bytes ≤ MAX_FILE_BYTES → (IsUtf8 bytes → read bytes ≡ None) → json_of bytes ≡ None
unfolding json_of
json_of-refused bytes h refused =
    ap (λ b. cond (b && is_utf8 bytes) (read bytes) None) (le-leb (length bytes) MAX_FILE_BYTES h)
    ∙ elim (is_utf8 bytes) as (λ b. is_utf8 bytes ≡ b → cond b (read bytes) None ≡ None) [
      | true ↦ λ u. refused (IsUtf8-from_is_utf8 bytes u)
      | false ↦ λ _. refl
    ] refl

-- a file that is too long has no JSON value
pub reads_nothing : (bytes : List ℕ) → MAX_FILE_BYTES < length bytes → ReadsAs bytes None
reads_nothing bytes h =
    let p = has_plain bytes in
    let same = plain_long bytes p.0 p.1 in
    record { text = p.0; plain = p.1; json_is = json_of-long p.0 (omega arith) }

-- a file reads as its plain text does
pub text_reads : (bytes text : List ℕ) (json : Option Data) → IsPlain bytes text → json_of text ≡ json → ReadsAs bytes json
text_reads bytes text json plain is = record { text = text; plain = plain; json_is = is }
