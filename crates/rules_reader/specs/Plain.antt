-- The plain text of a rules file: JSON of the same length, where its comments are spaces. (This project's profile.)
use Rattle.std.specs.Prelude.{◌≡◌, ℕ, suc, ◌==◌, ◌&&◌, ◌||◌, not, Bool, true, false, if◌then◌else◌, List, [], ◌∷◌, ◌++◌, length, map, flat_map, take, reverse, slice_index, codes, ⊤}

-- what a file is cut into: strings, by what stands inside them; comments, by what stands behind their first two bytes; and single other bytes
pub data Piece : Type 0 where
  closed_string : (inside : List ℕ) → Piece
  unclosed_string : (inside : List ℕ) → Piece
  line_comment : (words : List ℕ) → Piece
  block_comment : (words : List ℕ) → Piece
  unclosed_comment : (words : List ℕ) → Piece
  single : (byte : ℕ) → Piece

-- ---- how a piece is written

-- the byte of a double quote
abbrev pub quote : ℕ
quote = 34

-- the byte of a backslash
abbrev pub backslash : ℕ
backslash = 92

-- the bytes of a piece in the file
abbrev pub written : Piece → List ℕ
written (closed_string inside) = quote ∷ (inside ++ quote ∷ [])
written (unclosed_string inside) = quote ∷ inside
written (line_comment words) = codes "//" ++ words
written (block_comment words) = codes "/*" ++ (words ++ codes "*/")
written (unclosed_comment words) = codes "/*" ++ words
written (single byte) = byte ∷ []

-- what stands behind these bytes of a string, the nearest of them first, is escaped: the nearest is a backslash that is not escaped itself. (RFC 8259, strings.)
abbrev pub escapes : List ℕ → Bool
escapes [] = false
escapes (nearest ∷ before) = nearest == backslash && not (escapes before)

-- a backslash escapes what stands at this place inside a string
abbrev pub is_escaped : List ℕ → ℕ → Bool
is_escaped inside place = escapes (reverse (take place inside))

-- each quote inside a string is escaped
abbrev pub QuotesAreEscaped : List ℕ → Type 0
QuotesAreEscaped inside = (place : ℕ) → slice_index inside place ≡ quote → is_escaped inside place ≡ true

-- a line feed or a carriage return
abbrev pub ends_line : ℕ → Bool
ends_line byte = byte == 10 || byte == 13

-- a line ends before these bytes
abbrev pub is_line_end : List ℕ → Bool
is_line_end [] = true
is_line_end (byte ∷ _) = ends_line byte

-- no line ends in a comment
abbrev pub EndsNoLine : List ℕ → Type 0
EndsNoLine words = (place : ℕ) → ends_line (slice_index words place) ≡ false

-- no `*/` stands in a comment
abbrev pub ClosesNothing : List ℕ → Type 0
ClosesNothing words = (place : ℕ) → slice_index words place ≡ 42 → ¬ (slice_index words (suc place) ≡ 47)

-- `/` or `*` comes first
abbrev pub opens_comment : List ℕ → Bool
opens_comment [] = false
opens_comment (second ∷ _) = second == 47 || second == 42

-- a quote, a `//` or a `/*` comes first
abbrev pub opens : List ℕ → Bool
opens [] = false
opens (first ∷ behind) = first == quote || first == 47 && opens_comment behind

-- A piece stands before these bytes: a string goes to the first quote that is not escaped, or to the end; a `//` to before the end of its line; a `/*` to the first `*/`, or to the end; no other byte opens a string or a comment.
abbrev pub StandsBefore : List ℕ → Piece → Type 0
StandsBefore behind (closed_string inside) = QuotesAreEscaped inside × (is_escaped inside (length inside) ≡ false)
StandsBefore behind (unclosed_string inside) = QuotesAreEscaped inside × (behind ≡ [])
StandsBefore behind (line_comment words) = EndsNoLine words × (is_line_end behind ≡ true)
StandsBefore behind (block_comment words) = ClosesNothing words
StandsBefore behind (unclosed_comment words) = ClosesNothing words × (behind ≡ [])
StandsBefore behind (single byte) = opens (byte ∷ behind) ≡ false

-- ---- a file in pieces

-- the bytes of pieces, one after another
abbrev pub all_written : List Piece → List ℕ
all_written pieces = flat_map written pieces

-- each piece stands before the bytes of those behind it
abbrev pub EachStands : List Piece → Type 0
EachStands [] = ⊤
EachStands (piece ∷ pieces) = StandsBefore (all_written pieces) piece × EachStands pieces

-- the file is cut into these pieces
pub record IsCut (file : List ℕ) (pieces : List Piece) : Type 0 where
  pub whole : file ≡ all_written pieces
  pub each : EachStands pieces

-- ---- what becomes of it

-- a line feed, a carriage return or a tab becomes a space
abbrev pub spaced : ℕ → ℕ
spaced byte = if ends_line byte || byte == 9 then 32 else byte

-- what becomes of a byte of a piece: in a string a space of what JSON wants escaped there; in a comment a space; an unclosed comment stays as it is
abbrev pub becomes : Piece → ℕ → ℕ
becomes (closed_string _) byte = spaced byte
becomes (unclosed_string _) byte = spaced byte
becomes (line_comment _) byte = 32
becomes (block_comment _) byte = 32
becomes (unclosed_comment _) byte = byte
becomes (single _) byte = byte

-- the plain text of a piece: what becomes of each of its bytes
abbrev pub plain_piece : Piece → List ℕ
plain_piece piece = map (becomes piece) (written piece)

-- the plain text of a file: what becomes of its pieces, one after another
pub record IsPlain (file : List ℕ) (text : List ℕ) : Type 0 where
  pub pieces : List Piece
  pub cut : IsCut file pieces
  pub text_is : text ≡ flat_map plain_piece pieces
