-- The piece at the front of a file, by searching for its end.
use Rattle.std.specs.Prelude.{ℕ, zero, suc, ◌==◌, ◌&&◌, not, Bool, if◌then◌else◌, List, [], ◌∷◌, length, take, drop, slice_index, Option, Some, None}
use Rattle.rules_reader.specs.declared.plain_text.PieceKind.{PieceKind}
use Rattle.rules_reader.specs.declared.plain_text.PieceKind.TheVariants.{Quoted, Comment, AsItIs}
use Rattle.rules_reader.specs.Plain.{Piece, closed_string, unclosed_string, line_comment, block_comment, unclosed_comment, single, quote, is_escaped, ends_line, spaced}

-- the place that was found before, or else n, where the test holds there
abbrev pub first_or : Option ℕ → Bool → ℕ → Option ℕ
first_or (Some i) here n = Some i
first_or None here n = if here then Some n else None

-- the first place below n where the test holds
abbrev pub first : (ℕ → Bool) → ℕ → Option ℕ
first test zero = None
first test (suc n) = first_or (first test n) (test n) n

-- a quote that is not escaped
abbrev pub closes_string : List ℕ → ℕ → Bool
closes_string inside i = slice_index inside i == quote && not (is_escaped inside i)

-- a byte that ends the line
abbrev pub closes_line : List ℕ → ℕ → Bool
closes_line words i = ends_line (slice_index words i)

-- a `*/`
abbrev pub closes_comment : List ℕ → ℕ → Bool
closes_comment words i = slice_index words i == 42 && slice_index words (suc i) == 47

-- a string that is closed at this place, or an unclosed one without a place, and what stands behind it
abbrev pub string_by : List ℕ → Option ℕ → Piece × List ℕ
string_by behind None = (unclosed_string behind, [])
string_by behind (Some i) = (closed_string (take i behind), drop (suc i) behind)

-- a line comment up to this place, or to the end without one, and what stands behind it
abbrev pub line_by : List ℕ → Option ℕ → Piece × List ℕ
line_by behind None = (line_comment behind, [])
line_by behind (Some i) = (line_comment (take i behind), drop i behind)

-- a block comment that is closed at this place, or an unclosed one without a place, and what stands behind it
abbrev pub comment_by : List ℕ → Option ℕ → Piece × List ℕ
comment_by behind None = (unclosed_comment behind, [])
comment_by behind (Some i) = (block_comment (take i behind), drop (suc (suc i)) behind)

-- the piece that a slash in front of these bytes begins, and what stands behind it
abbrev pub slash_front : List ℕ → Piece × List ℕ
slash_front [] = (single 47, [])
slash_front (second ∷ behind) =
    if second == 47 then line_by behind (first (closes_line behind) (length behind)) else
    (if second == 42 then comment_by behind (first (closes_comment behind) (length behind)) else (single 47, second ∷ behind))

-- the piece at the front of some bytes, and what stands behind it
abbrev pub front : ℕ → List ℕ → Piece × List ℕ
front byte behind =
    if byte == quote then string_by behind (first (closes_string behind) (length behind)) else
    (if byte == 47 then slash_front behind else (single byte, behind))

-- what becomes of a byte, by the kind of its piece
abbrev pub kind_of : Piece → PieceKind
kind_of (closed_string _) = Quoted
kind_of (unclosed_string _) = Quoted
kind_of (line_comment _) = Comment
kind_of (block_comment _) = Comment
kind_of (unclosed_comment _) = AsItIs
kind_of (single _) = AsItIs

-- what becomes of a byte in a piece of this kind
abbrev pub becomes_in : PieceKind → ℕ → ℕ
becomes_in Quoted byte = spaced byte
becomes_in Comment byte = 32
becomes_in AsItIs byte = byte
