-- Methods of texts, which are lists of bytes in UTF-8.
use Rattle.std.specs.Prelude.{◌≡◌, ◌≤◌, ℕ, zero, suc, pos, ◌++◌, ◌==◌, ◌||◌, nat_eq, if◌then◌else◌, Bool, List, [], ◌∷◌, length, drop, codes, Option, Some, None, option_map}
use Rattle.std.specs.Option.{option_map_or}
use Rattle.std.specs.List.{starts_with, ends_with}
use Rattle.std.specs.Str.{bytes_eq, chars}
use Rattle.evaluator.specs.Value.{Value, truth, whole, words}
use Rattle.evaluator.specs.Operators.{text_within}

-- how many Unicode scalar values a text has. (Reference, `String.length`; what is counted is this project's profile.)
abbrev pub length_of : Value → Option Value
length_of (words s) = Some (whole (pos (length (chars s))))
length_of _ = None

-- the part stands at the beginning, or somewhere behind the first byte
abbrev pub is_inside : List ℕ → List ℕ → Bool
is_inside part [] = starts_with nat_eq [] part
is_inside part (b ∷ s) = starts_with nat_eq (b ∷ s) part || is_inside part s

-- one text contains the other; an error where either is no text. (Reference, `String.contains`.)
abbrev pub contains : Value → Value → Option Value
contains (words s) (words part) = Some (truth (is_inside part s))
contains _ _ = None

-- one text begins with the other; an error where either is no text. (Reference, `String.beginsWith`.)
abbrev pub begins_with : Value → Value → Option Value
begins_with (words s) (words part) = Some (truth (starts_with nat_eq s part))
begins_with _ _ = None

-- one text ends with the other; an error where either is no text. (Reference, `String.endsWith`.)
abbrev pub ends_with_text : Value → Value → Option Value
ends_with_text (words s) (words part) = Some (truth (ends_with nat_eq s part))
ends_with_text _ _ = None

-- ---- replace

-- one byte more in front
abbrev pub behind_byte : ℕ → List ℕ × List ℕ → List ℕ × List ℕ
behind_byte b p = (b ∷ p.0, p.1)

-- what stands before the first place where the part stands, and what stands behind it there
abbrev pub split_at_first : List ℕ → List ℕ → Option (List ℕ × List ℕ)
split_at_first part [] = if starts_with nat_eq [] part then Some ([], []) else None
split_at_first part (b ∷ s) = if starts_with nat_eq (b ∷ s) part then Some ([], drop (length part) (b ∷ s)) else option_map (behind_byte b) (split_at_first part s)

-- up to n times: at the first place where the part stands another text takes its place, and what stands behind is treated likewise
abbrev pub replaced_times : ℕ → List ℕ → List ℕ → List ℕ → List ℕ
replaced_times zero part with s = s
replaced_times (suc n) part with s = option_map_or (λ p. p.0 ++ with ++ replaced_times n part with p.1) (split_at_first part s) s

-- everywhere: a text has no more places than bytes
abbrev pub replaced : List ℕ → List ℕ → List ℕ → List ℕ
replaced part with s = replaced_times (length s) part with s

-- every occurrence of the first text, from the left, without overlap, becomes the second; an error where one is no text, the first is empty, or the text has over 65,536 bytes. (Reference, `String.replace`; the errors are this project's profile.)
abbrev pub replace : Value → Value → Value → Option Value
replace (words s) (words part) (words with) = if length part == 0 then None else text_within (replaced part with s)
replace _ _ _ = None

-- the first place of a part in a text: the text is what stands before it, the part, and what stands behind it, and no place of the part has less before it
pub record IsFirstPlace (part text front back : List ℕ) : Type 0 where
  pub stands : text ≡ front ++ part ++ back
  pub first : (f b : List ℕ) → text ≡ f ++ part ++ b → length front ≤ length f

-- ---- by their names

-- a method of a text that takes one value. (Reference, String methods.)
unfoldable pub text_test : List ℕ → Value → Value → Option Value
text_test f v w =
    if bytes_eq (codes "contains") f then contains v w
    else if bytes_eq (codes "beginsWith") f then begins_with v w
    else if bytes_eq (codes "endsWith") f then ends_with_text v w
    else None

-- one that takes two
unfoldable pub text_change : List ℕ → Value → Value → Value → Option Value
text_change f v w x = if bytes_eq (codes "replace") f then replace v w x else None
