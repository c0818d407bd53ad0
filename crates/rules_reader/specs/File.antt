-- A rules file: its objects, what they state, and what is wrong with them.
use Rattle.std.specs.Prelude.{◌≡◌, ℕ, ◌≤◌, ◌<◌, ◌&&◌, List, [], ◌∷◌, ◌++◌, map, length, filter, Bool, true, false, not, nat_le, nat_lt, if◌then◌else◌, Option, Some, None, is_some, option_and_then, codes, Contains}
use Rattle.std.specs.List.{list_all, list_any, AllByRecursion}
use Rattle.std.specs.Option.{option_map_or}
use Rattle.std.specs.FinMap as map_of
use Rattle.std.specs.Str.{bytes_eq, is_utf8}
use Rattle.std.specs.Ordering.{is_gt}
use Rattle.serde_json.specs.Data.{Data, null, boolean, number, string, array, object, Items, no_items, item, Members, no_members, member}
use Rattle.serde_json.specs.Find.{get_member, as_str, as_object}
use Rattle.serde_json.specs.Read.{read}
use Rattle.tree_model.specs.declared.limits.TheConstants.{MAX_DEPTH}
use Rattle.tree_model.specs.Path.{path_cmp}
use Rattle.tree_model.specs.PathMap.{under}
use Rattle.rules_reader.specs.Part.{Pattern, is_capture, is_part}
use Rattle.rules_reader.specs.declared.limits.TheConstants.{MAX_FILE_BYTES, MAX_RULES}
use Rattle.rules_reader.specs.declared.fault.RuleFault.{RuleFault}
use Rattle.rules_reader.specs.Book.{Stated, Book, TextBook, kind_name, rules}
use Rattle.rules_reader.specs.declared.kind.Kind.{Kind}
use Rattle.rules_reader.specs.declared.kind.Kind.TheVariants.{Read, Write, Validate}
use Rattle.rules_reader.specs.Spelled.{IsSpelled, IsFirstBad}
use Rattle.rules_reader.specs.Plain.{IsPlain}

-- ---- the objects of a file

-- the members of an object, each a name and its value
abbrev pub listed : Members → List (List ℕ × Data)
listed no_members = []
listed (member name d ms) = (name, d) ∷ listed ms

-- the object itself, and the objects of its keys and captures, each with its pattern below this one. (Guide "Core syntax", structuring your rules.)
abbrev mutual
  pub objects : Data → List (Pattern × Members)
  objects null = []
  objects (boolean b) = []
  objects (number n) = []
  objects (string s) = []
  objects (array ds) = []
  objects (object ms) = ([], ms) ∷ inner_objects ms

  pub inner_objects : Members → List (Pattern × Members)
  inner_objects no_members = []
  inner_objects (member name d ms) = (if is_part name then under name (objects d) else []) ++ inner_objects ms

-- the text of a rule: true and false of JSON are the literals. (Guide "Core syntax", rules types; the booleans: reference, rules types.)
abbrev pub rule_text : Data → Option (List ℕ)
rule_text null = None
rule_text (boolean b) = Some (if b then codes "true" else codes "false")
rule_text (number n) = None
rule_text (string s) = Some s
rule_text (array ds) = None
rule_text (object ms) = None

-- what an object states, each rule as its text: its `.read`, `.write` and `.validate`. (Reference, rules types.)
abbrev pub rule_texts : Members → Stated (List ℕ)
rule_texts ms = record {
  read = option_and_then rule_text (get_member (kind_name Read) ms);
  write = option_and_then rule_text (get_member (kind_name Write) ms);
  validate = option_and_then rule_text (get_member (kind_name Validate) ms);
}

-- what an object and all objects in it state, each rule as its text
unfoldable pub texts_of : Data → TextBook
texts_of d = map_of.from_entries (map (λ o. (o.0, rule_texts o.1)) (objects d))

-- ---- what is wrong with an object

-- a text
abbrev pub is_string : Data → Bool
is_string d = is_some (as_str d)

-- an object
abbrev pub is_object : Data → Bool
is_object d = is_some (as_object d)

-- the items are all texts
abbrev pub are_strings : Items → Bool
are_strings no_items = true
are_strings (item d ds) = is_string d && are_strings ds

-- a text, or a list of texts
abbrev pub is_index : Data → Bool
is_index null = false
is_index (boolean b) = false
is_index (number n) = false
is_index (string s) = true
is_index (array ds) = are_strings ds
is_index (object ms) = false

-- the names of rules
abbrev pub is_rule_name : List ℕ → Bool
is_rule_name name = list_any (bytes_eq name) (codes ".read" ∷ codes ".write" ∷ codes ".validate" ∷ [])

-- a member that may stand in the object at the pattern `at`: a rule that is a text, or true or false; an index; or a key or a capture with an object, at most 32 deep, a capture under a name that is none of those above it
abbrev pub is_sound_member : Pattern → List ℕ → Data → Bool
is_sound_member at name d =
    if is_rule_name name then is_some (rule_text d) else
    if bytes_eq name (codes ".indexOn") then is_index d else
    (is_part name && is_object d && nat_lt (length at) MAX_DEPTH && not (is_capture name && list_any (bytes_eq name) at))

-- the members whose names are those of captures
abbrev pub captures_among : List (List ℕ × Data) → List (List ℕ × Data)
captures_among members = filter (λ m. is_capture m.0) members

-- an object that may stand at the pattern `at`: each member may, and at most one is a capture. (Guide "Core syntax", `$` variables.)
abbrev pub is_sound : Pattern → Members → Bool
is_sound at ms = list_all (λ m. is_sound_member at m.0 m.1) (listed ms) && nat_le (length (captures_among (listed ms))) 1

-- the patterns of the objects that may not stand where they do, where the data d stands at the pattern `at`
unfoldable pub faulty : Pattern → Data → List Pattern
faulty at d = map (λ o. at ++ o.0) (filter (λ o. not (is_sound (at ++ o.0) o.1)) (objects d))

-- ---- the file

-- the one member of an object, if its name is `rules` and its value an object
abbrev pub only_rules : Members → Option Data
only_rules no_members = None
only_rules (member name d no_members) = if bytes_eq name (codes "rules") && is_object d then Some d else None
only_rules (member name d (member other e ms)) = None

-- what stands under `rules`, if the file is an object with this one member, an object
abbrev pub top : Data → Option Data
top d = option_and_then only_rules (as_object d)

-- the JSON value of bytes that are not too many and are UTF-8. (This project's profile; RFC 8259.)
unfoldable pub json_of : List ℕ → Option Data
json_of bytes = if nat_le (length bytes) MAX_FILE_BYTES && is_utf8 bytes then read bytes else None

-- what a file is as JSON: the value of its plain text, which is as long as the file, or none. (This project's profile.)
pub record ReadsAs (bytes : List ℕ) (json : Option Data) : Type 0 where
  pub text : List ℕ
  pub plain : IsPlain bytes text
  pub json_is : json_of text ≡ json

-- p is the least of these patterns: by the list of parts, each by the bytes of its text, a prefix first
pub record IsLeast (p : Pattern) (ps : List Pattern) : Type 0 where
  pub among : Contains ps p
  pub least : AllByRecursion (λ q. is_gt (path_cmp p q) ≡ false) ps

-- a file of the shape of a rules file, and what it states, each rule as its text
pub record IsShaped (bytes : List ℕ) (texts : TextBook) : Type 0 where
  pub json : Data
  pub reads : ReadsAs bytes (Some json)
  pub under_rules : Data
  pub is_top : top json ≡ Some under_rules
  pub sound : faulty [] under_rules ≡ []
  pub stated : texts ≡ texts_of under_rules

-- a lawful rules file, and what it states: its texts spell expressions that may stand where they do
pub record States (bytes : List ℕ) (book : Book) : Type 0 where
  pub texts : TextBook
  pub shaped : IsShaped bytes texts
  pub few : length (rules texts) ≤ MAX_RULES
  pub spelled : IsSpelled [] texts book

-- no JSON value
abbrev pub IsBadJson : List ℕ → Type 0
IsBadJson bytes = ReadsAs bytes None

-- the faulty places of a file: where the top is not as it should be, that counts as a fault of the root
abbrev pub faults : Data → List Pattern
faults json = option_map_or (faulty []) (top json) ([] ∷ [])

-- JSON, but no rules file, and p is the least of its faulty places
pub record IsBadShape (bytes : List ℕ) (p : Pattern) : Type 0 where
  pub json : Data
  pub reads : ReadsAs bytes (Some json)
  pub least : IsLeast p (faults json)

-- a rules file, but for the number of its rules
pub record HasTooManyRules (bytes : List ℕ) : Type 0 where
  pub texts : TextBook
  pub shaped : IsShaped bytes texts
  pub many : MAX_RULES < length (rules texts)

-- a rules file, but for a rule, the first that is not lawful: by pattern, and at one pattern `.read`, `.validate`, `.write`
pub record HasBadRule (bytes : List ℕ) (at : Pattern) (kind : Kind) (fault : RuleFault) : Type 0 where
  pub texts : TextBook
  pub shaped : IsShaped bytes texts
  pub few : length (rules texts) ≤ MAX_RULES
  pub first : IsFirstBad [] (rules texts) at kind fault
