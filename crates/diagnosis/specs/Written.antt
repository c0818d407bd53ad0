-- Where something is written in the text of a rules file. A place is a byte of the text, from 0; the plain text of a file is as long as the file, so it has the same places.
use Rattle.std.specs.Prelude.{◌≡◌, ℕ, ◌<◌, ◌≤◌, ◌++◌, List, [], ◌∷◌, length, take, drop, slice_index, codes, true, false, Option, Some, is_some, option_and_then}
use Rattle.serde_json.specs.Data.{Data, null, string}
use Rattle.serde_json.specs.Find.{get}
use Rattle.rules_reader.specs.File.{json_of}

-- what stands in JSON data at a path of names: in the member of the first name, and so on. (RFC 8259, objects.)
unfoldable pub value_at : List (List ℕ) → Data → Option Data
value_at [] d = Some d
value_at (name ∷ names) d = option_and_then (value_at names) (get name d)

-- what a text has at a path of names, if it is JSON
abbrev pub text_at : List (List ℕ) → List ℕ → Option Data
text_at path text = option_and_then (value_at path) (json_of text)

-- the bytes between two places
abbrev pub between : List ℕ → ℕ → ℕ → List ℕ
between text from to = drop from (take to text)

-- the text with these bytes in the place of those between two places
abbrev pub with_between : List ℕ → ℕ → ℕ → List ℕ → List ℕ
with_between text from to bytes = take from text ++ (bytes ++ drop to text)

-- two places of a text, one behind the other
abbrev pub ArePlaces : List ℕ → ℕ → ℕ → Type 0
ArePlaces text from to = (from < to) × (to ≤ length text)

-- the bytes between two places, from a quote on, are these words by themselves
pub record IsQuoted (text said : List ℕ) (from to : ℕ) : Type 0 where
  pub places : ArePlaces text from to
  pub first : slice_index text from ≡ 34
  pub alone : json_of (between text from to) ≡ Some (string said)

-- These words stand at the path and are written between these places: were `null` written there, then null would stand at the path.
pub record IsWrittenAt (text : List ℕ) (path : List (List ℕ)) (said : List ℕ) (from to : ℕ) : Type 0 where
  pub quoted : IsQuoted text said from to
  pub there : text_at path text ≡ Some (string said)
  pub replaced : text_at path (with_between text from to (codes "null")) ≡ Some null

-- a name that no member of a rules file may have
abbrev pub other_name : List ℕ
other_name = codes ".."

-- The name of a member of the object at the path is written between these places: were another name written there, the object would have a member of that name, which it has not.
pub record IsNamedAt (text : List ℕ) (path : List (List ℕ)) (name : List ℕ) (from to : ℕ) : Type 0 where
  pub quoted : IsQuoted text name from to
  pub absent : is_some (text_at (path ++ other_name ∷ []) text) ≡ false
  pub renamed : is_some (text_at (path ++ other_name ∷ []) (with_between text from to (codes "\"..\""))) ≡ true

-- What is written between two places falls into two parts at a third: what is written before it says the one, and what is written from it on the other.
pub record IsSplitAt (text : List ℕ) (from to : ℕ) (front rest : List ℕ) (place : ℕ) : Type 0 where
  pub inside : (from < place) × (place < to)
  pub before : json_of (between text from place ++ codes "\"") ≡ Some (string front)
  pub behind : json_of (codes "\"" ++ between text place to) ≡ Some (string rest)

-- a byte of what is said between two places was read from a third: there the bytes before it end
abbrev pub IsReadFrom : List ℕ → ℕ → ℕ → List ℕ → ℕ → ℕ → Type 0
IsReadFrom text from to said byte place = IsSplitAt text from to (take byte said) (drop byte said) place
