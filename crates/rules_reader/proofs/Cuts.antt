-- Each file is cut in one way, and has one plain text.
use Rattle.std.proofs.Common.{◌≡◌, ℕ, zero, suc, ◌+◌, ◌-◌, ◌<◌, ◌≤◌, List, [], ◌∷◌, ◌++◌, length, map, take, drop, get_or, refl, sym, ap, subst, ◌∙◌, arith, append_assoc, length-append}
use Rattle.std.specs.List.{flat_map}
use Rattle.std.proofs.lemmas.List.{length-map, take_at, append-nil}
use Rattle.rules_reader.specs.Plain.{Piece, closed_string, unclosed_string, line_comment, block_comment, unclosed_comment, single, written, all_written, StandsBefore, EachStands, IsCut, becomes, plain_piece, IsPlain}
use Rattle.rules_reader.specs.declared.plain_text.PieceKind.{PieceKind}
use Rattle.rules_reader.specs.Working.Front.{front, kind_of, becomes_in}
use Rattle.rules_reader.proofs.Fronts.{front_stands, front_of, front_is, uncons}

-- one piece more in front
pub cut_more : (behind all : List ℕ) (piece : Piece) (pieces : List Piece) → written piece ++ behind ≡ all → StandsBefore behind piece → IsCut behind pieces → IsCut all (piece ∷ pieces)
cut_more behind all piece pieces whole stands cut = record {
  whole = sym whole ∙ ap (λ (bytes : List ℕ). written piece ++ bytes) cut.whole;
  each = (subst (λ (bytes : List ℕ). StandsBefore bytes piece) cut.whole stands, cut.each);
}

pub plain_none : IsPlain [] []
plain_none = record { pieces = []; cut = record { whole = refl; each = tt }; text_is = refl }

pub plain_more : (behind all text : List ℕ) (piece : Piece) → written piece ++ behind ≡ all → StandsBefore behind piece → IsPlain behind text → IsPlain all (plain_piece piece ++ text)
plain_more behind all text piece whole stands plain = record {
  pieces = piece ∷ plain.pieces;
  cut = cut_more behind all piece plain.pieces whole stands plain.cut;
  text_is = ap (λ (bytes : List ℕ). plain_piece piece ++ bytes) plain.text_is;
}

-- no piece is empty
written_some : (piece : Piece) → 0 < length (written piece)
written_some (closed_string inside) = omega arith
written_some (unclosed_string inside) = omega arith
written_some (line_comment words) = omega arith
written_some (block_comment words) = omega arith
written_some (unclosed_comment words) = omega arith
written_some (single byte) = omega arith

cut_upto : (n : ℕ) (file : List ℕ) → length file ≤ n → (pieces : List Piece) × IsCut file pieces
cut_upto n [] le = ([], record { whole = refl; each = tt })
cut_upto zero (b ∷ bs) le = absurd (omega arith)
cut_upto (suc n) (b ∷ bs) le =
    let f = front_stands b bs in
    let piece : Piece = (front b bs).0 in
    let behind : List ℕ = (front b bs).1 in
    let some = written_some (front b bs).0 in
    let long : length (written (front b bs).0) + length (front b bs).1 ≡ length (b ∷ bs) = sym (length-append (written (front b bs).0) (front b bs).1) ∙ ap length f.whole in
    let rest = cut_upto n (front b bs).1 (omega arith) in
    ((front b bs).0 ∷ rest.0, cut_more (front b bs).1 (b ∷ bs) (front b bs).0 rest.0 f.whole f.stands rest.1)

pub each_is_cut : (file : List ℕ) → (pieces : List Piece) × IsCut file pieces
each_is_cut file = cut_upto (length file) file (omega arith)

none_written : (piece : Piece) (bytes : List ℕ) → [] ≡ written piece ++ bytes → ⊥
none_written piece bytes e =
    let some = written_some piece in
    let long : 0 ≡ length (written piece) + length bytes = ap length e ∙ length-append (written piece) bytes in
    omega arith

same_pieces : (one two : List Piece) → all_written one ≡ all_written two → EachStands one → EachStands two → one ≡ two
same_pieces [] [] e a b = refl
same_pieces [] (q ∷ qs) e a b = absurd (none_written q (all_written qs) e)
same_pieces (p ∷ ps) [] e a b = absurd (none_written p (all_written ps) (sym e))
same_pieces (p ∷ ps) (q ∷ qs) e a b =
    let same : (p, all_written ps) ≡ (q, all_written qs) = sym (front_is p (all_written ps) a.0) ∙ ap front_of e ∙ front_is q (all_written qs) b.0 in
    let first_same : p ≡ q = ap (λ (f : Piece × List ℕ). f.0) same in
    ap (λ (x : Piece). x ∷ ps) first_same ∙ ap (λ (xs : List Piece). q ∷ xs) (same_pieces ps qs (ap (λ (f : Piece × List ℕ). f.1) same) a.1 b.1)

pub one_cut : (file : List ℕ) (one two : List Piece) → IsCut file one → IsCut file two → one ≡ two
one_cut file one two a b = same_pieces one two (sym a.whole ∙ b.whole) a.each b.each

pub has_plain : (file : List ℕ) → (text : List ℕ) × IsPlain file text
has_plain file = let c = each_is_cut file in (flat_map plain_piece c.0, record { pieces = c.0; cut = c.1; text_is = refl })

pub one_plain : (file one two : List ℕ) → IsPlain file one → IsPlain file two → one ≡ two
one_plain file one two a b = a.text_is ∙ ap (flat_map plain_piece) (one_cut file a.pieces b.pieces a.cut b.cut) ∙ sym b.text_is

-- nothing becomes longer or shorter
all_long : (pieces : List Piece) → length (flat_map plain_piece pieces) ≡ length (all_written pieces)
all_long [] = refl
all_long (p ∷ ps) =
    length-append (plain_piece p) (flat_map plain_piece ps)
    ∙ ap (λ (n : ℕ). n + length (flat_map plain_piece ps)) (length-map (written p) (becomes p))
    ∙ ap (λ (n : ℕ). length (written p) + n) (all_long ps)
    ∙ sym (length-append (written p) (all_written ps))

pub plain_long : (file text : List ℕ) → IsPlain file text → length text ≡ length file
plain_long file text h = ap length h.text_is ∙ all_long h.pieces ∙ ap length (sym h.cut.whole)

-- ---- piece by piece

becomes_alike : (piece : Piece) (bytes : List ℕ) → map (becomes_in (kind_of piece)) bytes ≡ map (becomes piece) bytes
becomes_alike (closed_string _) bytes = refl
becomes_alike (unclosed_string _) bytes = refl
becomes_alike (line_comment _) bytes = refl
becomes_alike (block_comment _) bytes = refl
becomes_alike (unclosed_comment _) bytes = refl
becomes_alike (single _) bytes = refl

-- the text so far, with any plain text of the rest, is a plain text of the file
abbrev pub Goes : List ℕ → List ℕ → List ℕ → Type 0
Goes file done rest = (text : List ℕ) → IsPlain rest text → IsPlain file (done ++ text)

-- what stands behind the piece at the front is less than all
pub shorter : (rest after : List ℕ) → 1 ≤ length rest → after ≡ (front (get_or rest 0 0) (take (length rest - 1) (drop 1 rest))).1 → length after < length rest
shorter rest after some is =
    let f : Piece × List ℕ = front (get_or rest 0 0) (take (length rest - 1) (drop 1 rest)) in
    let whole : written f.0 ++ f.1 ≡ rest = (front_stands (get_or rest 0 0) (take (length rest - 1) (drop 1 rest))).whole ∙ uncons rest some in
    let long : length (written f.0) + length f.1 ≡ length rest = sym (length-append (written f.0) f.1) ∙ ap length whole in
    let not_empty : 0 < length (written f.0) = written_some f.0 in
    let same : length after ≡ length f.1 = ap length is in
    omega arith

pub goes_on : (file done rest after : List ℕ) (kind : PieceKind) → 1 ≤ length rest → Goes file done rest → kind ≡ kind_of (front (get_or rest 0 0) (take (length rest - 1) (drop 1 rest))).0 → after ≡ (front (get_or rest 0 0) (take (length rest - 1) (drop 1 rest))).1 → Goes file (done ++ map (becomes_in kind) (take (length rest - length after) rest)) after
goes_on file done rest after kind some goes kind_is after_is text plain =
    let f : Piece × List ℕ = front (get_or rest 0 0) (take (length rest - 1) (drop 1 rest)) in
    let stands = front_stands (get_or rest 0 0) (take (length rest - 1) (drop 1 rest)) in
    let whole : written f.0 ++ after ≡ rest = ap (λ (bytes : List ℕ). written f.0 ++ bytes) after_is ∙ stands.whole ∙ uncons rest some in
    let long : length (written f.0) + length after ≡ length rest = sym (length-append (written f.0) after) ∙ ap length whole in
    let piece_is : take (length rest - length after) rest ≡ written f.0 = ap (take (length rest - length after)) (sym whole) ∙ take_at (written f.0) after (length rest - length after) (omega arith) in
    let said : map (becomes_in kind) (take (length rest - length after) rest) ≡ plain_piece f.0 =
    ap (map (becomes_in kind)) piece_is ∙ ap (λ (k : PieceKind). map (becomes_in k) (written f.0)) kind_is ∙ becomes_alike f.0 (written f.0) in
    let more = goes (plain_piece f.0 ++ text) (plain_more after rest text f.0 whole (subst (λ (bytes : List ℕ). StandsBefore bytes f.0) (sym after_is) stands.stands) plain) in
    subst (λ (bytes : List ℕ). IsPlain file bytes) (ap (λ (bytes : List ℕ). done ++ (bytes ++ text)) (sym said) ∙ sym (append_assoc done (map (becomes_in kind) (take (length rest - length after) rest)) text)) more

pub goes_to_the_end : (file done rest : List ℕ) → length rest < 1 → Goes file done rest → IsPlain file done
goes_to_the_end file done [] short goes = subst (λ (bytes : List ℕ). IsPlain file bytes) (append-nil done) (goes [] plain_none)
goes_to_the_end file done (b ∷ rest) short goes = absurd (omega arith)
