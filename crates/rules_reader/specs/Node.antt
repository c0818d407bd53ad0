-- What a rule node is seen as: a point of a rules file.
use Rattle.std.specs.Prelude.{◌≡◌, ℕ, ◌++◌, List, [], ◌∷◌, map, flat_map, true, false, Option, Some, MatchOption, refl, slice_get, option_map}
use Rattle.std.specs.List.{AllByRecursion, list_any}
use Rattle.std.specs.FinMap as map_of
use Rattle.std.specs.Coded.{Coded, code_by, coded×, coded_ℕ, coded_list}
use Rattle.tree_model.specs.Key.{Key, key_cmp}
use Rattle.tree_model.specs.PathMap.{sub, exists, under}
use Rattle.path_capture.specs.declared.pattern.Part.{Part}
use Rattle.path_capture.specs.Pattern.{part_of, part_text}
use Rattle.rules_reader.specs.Part.{PartText, Pattern, is_capture}
use Rattle.rules_reader.specs.Book.{Stated, BookOf, Book, stated_for, book_code}
use Rattle.rules_reader.specs.declared.kind.Kind.{Kind}
use Rattle.rules_reader.specs.Spelled.{IsLawful}
use Rattle.expr_types.specs.Checked.{Checked}
use Rattle.rules_reader.specs.Place.{matches, HasOneCapture, one_capture_at_most}

-- the pattern of an object, and what is stated at and below it, by what is left of the patterns there
pub record Point : Type 0 where
  pub at : Pattern
  pub book : Book

-- the coding of a point
abbrev pub point_code : Coded Point
point_code = code_by (Pattern × Book) (coded× (coded_list (coded_list coded_ℕ)) book_code) (λ p. (p.at, p.book)) (λ t. record { at = t.0; book = t.1 }) (λ _. refl)

-- the book of an object that states `own`, and whose keys and captures have these books
unfoldable pub grown : {A : Type 0} → Stated A → List (PartText × BookOf A) → BookOf A
grown own parts = map_of.from_entries (([], own) ∷ flat_map (λ c. under c.0 (map_of.entries c.1)) parts)

-- one key further down: a part that matches the key, and what is stated at and below it
pub record Steps (from : Point) (key : Key) (to : Point) : Type 0 where
  pub part : PartText
  pub matched : matches from.book [] part key ≡ true
  pub at : to.at ≡ from.at ++ part ∷ []
  pub book : to.book ≡ sub from.book (part ∷ [])
  pub listed : map_of.contains_key to.book [] ≡ true

-- no part of the book matches the key
abbrev pub NoneMatches : Book → Key → Type 0
NoneMatches book key = (part : PartText) → matches book [] part key ≡ true → exists book (part ∷ []) ≡ false

-- ---- the parts of a node

-- the text of a part of the code
abbrev pub text_of : Part → PartText
text_of part = part_text (part_of part)

-- the books of a node's children
abbrev pub books : List (Part × Point) → List (PartText × Book)
books children = map (λ c. (text_of c.0, c.1.book)) children

-- the texts of the parts of a node's children
abbrev pub names : List (Part × Point) → List PartText
names children = map (λ c. text_of c.0) children

-- a child of the node at `at`: it stands there, its own object is listed, and in each object at most one part is a capture
pub record IsChild (at : Pattern) (c : Part × Point) : Type 0 where
  pub at_part : c.1.at ≡ at ++ text_of c.0 ∷ []
  pub listed : map_of.contains_key c.1.book [] ≡ true
  pub one : HasOneCapture c.1.book

-- where the capture is among the children, if one is
abbrev pub IsCaptureAt : List (Part × Point) → Option ℕ → Type 0
IsCaptureAt children place = MatchOption place (list_any is_capture (names children) ≡ false) (λ i. option_map (λ c. is_capture (text_of c.0)) (slice_get children i) ≡ Some true)

-- each rule that is stated for this pattern may stand there
abbrev pub AreLawful : Pattern → Stated Checked → Type 0
AreLawful at own = (kind : Kind) (checked : Checked) → stated_for kind own ≡ Some checked → IsLawful at kind checked

-- what holds of every node
pub record IsNode (at : Pattern) (own : Stated Checked) (children : List (Part × Point)) (place : Option ℕ) : Type 0 where
  pub lawful : AreLawful at own
  pub ascending : map_of.is_sorted key_cmp (books children) ≡ true
  pub each : AllByRecursion (IsChild at) children
  pub few : one_capture_at_most (names children) ≡ true
  pub capture : IsCaptureAt children place
