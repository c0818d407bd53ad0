-- Rule place: which pattern of a book stands at a path.
use Rattle.std.specs.Prelude.{◌≡◌, ◌≢◌, ℕ, ◌<◌, ◌++◌, List, [], ◌∷◌, length, take, zip, filter_map, codes, Bool, true, not, if◌then◌else◌, Some, None, slice_index_or, nat_le, filter}
use Rattle.std.specs.FinMap as map_of
use Rattle.std.specs.Str.{bytes_eq}
use Rattle.tree_model.specs.Key.{Key}
use Rattle.tree_model.specs.Path.{Path}
use Rattle.tree_model.specs.PathMap.{exists}
use Rattle.path_capture.specs.Name.{is_name}
use Rattle.rules_reader.specs.Part.{PartText, Pattern, is_capture, bare_name}
use Rattle.rules_reader.specs.Book.{BookOf}

-- the part after these matches the key: a key matches itself; a capture matches a key only if no pattern of the book has the same parts before it and then that key. (Guide "Core syntax", using $ variables to capture path segments.)
abbrev pub matches : {A : Type 0} → BookOf A → Pattern → PartText → Key → Bool
matches book before part key = if is_capture part then not (exists book (before ++ key ∷ [])) else bytes_eq part key

-- the pattern p stands at the path: it is a pattern of the book, as long as the path, and each part matches the key at its place
pub record StandsAt {A : Type 0} (book : BookOf A) (p : Pattern) (path : Path) : Type 0 where
  pub listed : map_of.contains_key book p ≡ true
  pub long : length p ≡ length path
  pub matched : (i : ℕ) → i < length p → matches book (take i p) (slice_index_or p i []) (slice_index_or path i []) ≡ true

-- the captures of a pattern that stands at a path: the name of each, without its $, and the key at its place
abbrev pub captures : Pattern → Path → List (List ℕ × Key)
captures p path = filter_map (λ pair. if is_capture pair.0 then Some (bare_name pair.0, pair.1) else None) (zip p path)

-- at one place the pattern has a capture of this name, and the path this key
abbrev pub IsCaptureOf : Pattern → Path → List ℕ → Key → Type 0
IsCaptureOf p path name k = (i : ℕ) × (i < length p) × (slice_index_or p i [] ≡ codes "$" ++ name) × (slice_index_or path i [] ≡ k) × (is_name name ≡ true)

-- a capture stands once in the pattern, so that its name has one key. (Guide "Core syntax", using $ variables to capture path segments.)
abbrev pub NamesOnce : Pattern → Type 0
NamesOnce p = (i j : ℕ) → i < j → j < length p → is_capture (slice_index_or p j []) ≡ true → slice_index_or p i [] ≢ slice_index_or p j []

-- in each pattern of the book a capture stands once
pub record HasNamesOnce {A : Type 0} (book : BookOf A) : Type 0 where
  pub once : (p : Pattern) → map_of.contains_key book p ≡ true → NamesOnce p

-- in each object of the book at most one part is a capture
pub record HasOneCapture {A : Type 0} (book : BookOf A) : Type 0 where
  pub one : (before : Pattern) (a b : PartText) → is_capture a ≡ true → is_capture b ≡ true → exists book (before ++ a ∷ []) ≡ true → exists book (before ++ b ∷ []) ≡ true → a ≡ b

-- of these names at most one is a capture
abbrev pub one_capture_at_most : List PartText → Bool
one_capture_at_most names = nat_le (length (filter is_capture names)) 1
