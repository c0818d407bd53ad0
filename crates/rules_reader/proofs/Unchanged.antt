-- What the plain text of a file has as it is.
use Rattle.std.proofs.Common.{◌≡◌, ℕ, ◌==◌, ◌&&◌, not, Bool, true, List, [], ◌∷◌, ◌++◌, map, nat_le, refl, sym, ap, ◌∙◌, arith}
use Rattle.std.specs.List.{list_all, flat_map}
use Rattle.std.specs.Cmp.{first_so, second_so}
use Rattle.std.proofs.lemmas.Bool.{false≢true}
use Rattle.std.proofs.lemmas.Bool.Decides.{nat_tests}
use Rattle.std.proofs.lemmas.List.Folds.{list_all-append}
use Rattle.rules_reader.specs.Plain.{Piece, closed_string, unclosed_string, line_comment, block_comment, unclosed_comment, single, written, all_written, spaced, plain_piece, IsPlain}
use Rattle.rules_reader.specs.Working.Front.{becomes_in}
use Rattle.rules_reader.specs.declared.plain_text.PieceKind.TheVariants.{Quoted, AsItIs}
use Rattle.rules_reader.proofs.Cuts.{has_plain}

-- ---- pieces

spaced_is : (byte : ℕ) → nat_le 32 byte ≡ true → spaced byte ≡ byte
spaced_is byte h = grind (arith, nat_tests)

-- a string without control characters
pub as_quoted : (piece : List ℕ) → list_all (nat_le 32) piece ≡ true → map (becomes_in Quoted) piece ≡ piece
as_quoted [] h = refl
as_quoted (byte ∷ piece) h = λ i. spaced_is byte (first_so (nat_le 32 byte) _ h) i ∷ as_quoted piece (second_so (nat_le 32 byte) _ h) i

pub as_it_is : (piece : List ℕ) → map (becomes_in AsItIs) piece ≡ piece
as_it_is [] = refl
as_it_is (byte ∷ piece) = ap (λ rest. byte ∷ rest) (as_it_is piece)

-- ---- whole files

-- a byte that stays as it is wherever it stands: no control character, and no slash, with which each comment begins
abbrev pub stays : ℕ → Bool
stays byte = nat_le 32 byte && not (byte == 47)

none_spaced : (bytes : List ℕ) → list_all stays bytes ≡ true → map spaced bytes ≡ bytes
none_spaced [] h = refl
none_spaced (byte ∷ bytes) h = λ i. spaced_is byte (first_so (nat_le 32 byte) _ (first_so (stays byte) _ h)) i ∷ none_spaced bytes (second_so (stays byte) _ h) i

piece_stays : (piece : Piece) → list_all stays (written piece) ≡ true → plain_piece piece ≡ written piece
piece_stays (closed_string inside) h = none_spaced (written (closed_string inside)) h
piece_stays (unclosed_string inside) h = none_spaced (written (unclosed_string inside)) h
piece_stays (line_comment words) h = absurd (false≢true h)
piece_stays (block_comment words) h = absurd (false≢true h)
piece_stays (unclosed_comment words) h = absurd (false≢true h)
piece_stays (single byte) h = refl

pieces_stay : (pieces : List Piece) → list_all stays (all_written pieces) ≡ true → flat_map plain_piece pieces ≡ all_written pieces
pieces_stay [] h = refl
pieces_stay (piece ∷ pieces) h =
    let both = sym (list_all-append stays (written piece) (all_written pieces)) ∙ h in
    ap (λ bytes. bytes ++ flat_map plain_piece pieces) (piece_stays piece (first_so _ _ both))
    ∙ ap (λ bytes. written piece ++ bytes) (pieces_stay pieces (second_so _ _ both))

-- a file of such bytes is its own plain text
pub all_stays : (file : List ℕ) → list_all stays file ≡ true → IsPlain file file
all_stays file h =
    let plain = (has_plain file).1 in
    record {
      pieces = plain.pieces;
      cut = plain.cut;
      text_is = plain.cut.whole ∙ sym (pieces_stay plain.pieces (ap (list_all stays) (sym plain.cut.whole) ∙ h));
    }
