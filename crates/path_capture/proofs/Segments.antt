-- The segments of a text, piece by piece; and those of a printed path.
use Rattle.std.proofs.Common.{◌≡◌, ℕ, ◌+◌, ◌≤◌, ◌<◌, ◌==◌, Bool, true, false, cond, not, ◌&&◌, ◌||◌, List, [], ◌∷◌, ◌++◌, length, take, get_or, Some, None, inl, inr, sym, ap, ◌∙◌, refl, arith}
use Rattle.std.specs.Prelude.{filter, codes, flat_map}
use Rattle.std.specs.List.{list_all}
use Rattle.std.specs.Cmp.{first_so, second_so}
use Rattle.std.proofs.lemmas.Bool.{false≢true}
use Rattle.std.proofs.lemmas.Bool.Decides.{nat_tests}
use Rattle.std.proofs.lemmas.List.{take_more, take_all, append-nil, append_assoc, length-append, length-take-le}
use Rattle.std.proofs.lemmas.List.Elements.{filter-append}
use Rattle.std.proofs.lemmas.List.Folds.{list_all_at, list_all-append}
use Rattle.std.proofs.lemmas.List.Splits.{length-slice_split, slice_split_none, slice_split_at}
use Rattle.std.proofs.lemmas.List.Sums.{length-filter, count_by-le-length}
use Rattle.tree_model.specs.declared.limits.TheConstants.{MAX_DEPTH}
use Rattle.tree_model.specs.Key.{Key, is_key, is_key_byte}
use Rattle.tree_model.specs.Path.{Path, is_path}
use Rattle.tree_model.proofs.Choices.{both_so}
use Rattle.tree_model.proofs.Lawful.{is_path_from, path_keys}
use Rattle.path_capture.specs.Path.{pieces, segments, printed}
use Rattle.path_capture.specs.Working.Slashes.{ends_piece, IsPastSlash}
use Rattle.path_capture.proofs.Signs.{bytes_without_slash, key_without_slash, key_is_not_empty}

-- the pieces that are not empty
abbrev pub named : List Key → List Key
named ps = filter (λ piece. not (length piece == 0)) ps

named_empty : (piece : Key) (ps : List Key) → (length piece == 0) ≡ true → named (piece ∷ ps) ≡ named ps
named_empty piece ps h = ap (λ b. cond (not b) (piece ∷ named ps) (named ps)) h

named_full : (piece : Key) (ps : List Key) → (length piece == 0) ≡ false → named (piece ∷ ps) ≡ piece ∷ named ps
named_full piece ps h = ap (λ b. cond (not b) (piece ∷ named ps) (named ps)) h

-- ---- a loop over the pieces

-- one piece more, by where it stands
abbrev pub IsPieceAt : List Key → ℕ → Key → Type 0
IsPieceAt ps n piece = (n < length ps) × (piece ≡ get_or ps n piece)

named_more : (ps : List Key) (n : ℕ) (piece : Key) → IsPieceAt ps n piece → named (take (n + 1) ps) ≡ named (take n ps) ++ named (piece ∷ [])
named_more ps n piece at =
    ap named (take_more ps n piece at.0 ∙ ap (λ k. take n ps ++ k ∷ []) (sym at.1))
    ∙ filter-append (λ p. not (length p == 0)) (take n ps) (piece ∷ [])

-- an empty piece is passed over
pub named_past : (ps : List Key) (n : ℕ) (piece : Key) → IsPieceAt ps n piece → (length piece == 0) ≡ true → named (take (n + 1) ps) ≡ named (take n ps)
named_past ps n piece at h = named_more ps n piece at ∙ ap (λ x. named (take n ps) ++ x) (named_empty piece [] h) ∙ append-nil _

-- another piece is a segment
pub named_with : (ps : List Key) (n : ℕ) (piece : Key) → IsPieceAt ps n piece → (length piece == 0) ≡ false → named (take (n + 1) ps) ≡ named (take n ps) ++ piece ∷ []
named_with ps n piece at h = named_more ps n piece at ∙ ap (λ x. named (take n ps) ++ x) (named_full piece [] h)

-- of the first n pieces, those that are not empty are lawful keys, and so many
pub record Counted (ps : List Key) (n count : ℕ) : Type 0 where
  pub lawful : list_all is_key (named (take n ps)) ≡ true
  pub is : count ≡ length (named (take n ps))

pub Counted-none : (ps : List Key) → Counted ps 0 0
Counted-none ps = record { lawful = refl; is = refl }

pub Counted-past : (ps : List Key) (n : ℕ) (piece : Key) (count : ℕ) → IsPieceAt ps n piece → (length piece == 0) ≡ true → Counted ps n count → Counted ps (n + 1) count
Counted-past ps n piece count at h so_far =
    let more = named_past ps n piece at h in
    record { lawful = ap (list_all is_key) more ∙ so_far.lawful; is = so_far.is ∙ ap length (sym more) }

pub Counted-with : (ps : List Key) (n : ℕ) (piece : Key) (count : ℕ) → IsPieceAt ps n piece → (length piece == 0) ≡ false → is_key piece ≡ true → Counted ps n count → Counted ps (n + 1) (count + 1)
Counted-with ps n piece count at h lawful so_far =
    let more = named_with ps n piece at h in
    record {
      lawful = ap (list_all is_key) more ∙ list_all-append is_key (named (take n ps)) (piece ∷ []) ∙ both_so _ _ so_far.lawful (both_so _ _ lawful refl);
      is = ap (λ x. x + 1) so_far.is ∙ sym (length-append (named (take n ps)) (piece ∷ [])) ∙ ap length (sym more);
    }

-- ---- a loop over the text

-- a piece without a slash is one segment, or none
pub segments_of_piece : (piece : List ℕ) → list_all is_key_byte piece ≡ true → segments piece ≡ named (piece ∷ [])
segments_of_piece piece bytes = ap named (slice_split_none (λ b. b == 47) piece (bytes_without_slash piece bytes))

pub segments_of_nothing : (piece : List ℕ) → length piece ≡ 0 → segments piece ≡ []
segments_of_nothing [] none = refl
segments_of_nothing (b ∷ piece) none = absurd (omega arith)

pub segments_of_key : (piece : List ℕ) → list_all is_key_byte piece ≡ true → is_key piece ≡ true → segments piece ≡ piece ∷ []
segments_of_key piece bytes lawful = segments_of_piece piece bytes ∙ named_full piece [] (key_is_not_empty piece lawful)

-- where a piece ends before something, that begins with an ASCII byte
pub ascii_first : (text : List ℕ) → ends_piece text ≡ true → 0 < length text → get_or text 0 0 < 128
ascii_first [] h some = absurd (omega arith)
ascii_first (b ∷ rest) h some = grind (arith, nat_tests)

-- a path with room for one key more
pub path_with : (keys : List Key) (k : Key) → is_path keys ≡ true → is_key k ≡ true → length keys < MAX_DEPTH → is_path (keys ++ k ∷ []) ≡ true
path_with keys k path lawful less =
    let longer = length-append keys (k ∷ []) in
    is_path_from _ (list_all-append is_key keys (k ∷ []) ∙ both_so _ _ (path_keys keys path) (both_so _ _ lawful refl)) (omega arith)

-- what a piece and what follows the slash behind it add
pub segments_past : (text piece behind rest : List ℕ) → text ≡ piece ++ behind → list_all is_key_byte piece ≡ true → IsPastSlash behind rest → segments text ≡ segments piece ++ segments rest
segments_past text piece behind rest whole bytes (inl both) =
    ap segments whole
    ∙ ap (λ b. segments (piece ++ b)) both.0
    ∙ ap segments (append-nil piece)
    ∙ sym (append-nil (segments piece))
    ∙ ap (λ r. segments piece ++ segments r) (sym both.1)
segments_past text piece behind rest whole bytes (inr slash) =
    ap segments whole
    ∙ ap (λ b. segments (piece ++ b)) slash
    ∙ ap named (slice_split_at (λ b. b == 47) piece 47 rest (bytes_without_slash piece bytes) refl)
    ∙ filter-append (λ p. not (length p == 0)) (piece ∷ []) (pieces rest)
    ∙ ap (λ s. s ++ segments rest) (sym (segments_of_piece piece bytes))

-- what is left is shorter
pub shorter_past : (text piece behind rest : List ℕ) → text ≡ piece ++ behind → IsPastSlash behind rest → 0 < length text → length rest < length text
shorter_past text piece behind rest whole (inl both) some = let none = ap (λ (b : List ℕ). length b) both.1 in omega arith
shorter_past text piece behind rest whole (inr slash) some =
    let long = ap (λ (b : List ℕ). length b) whole ∙ length-append piece behind in
    let behind_long = ap (λ (b : List ℕ). length b) slash in
    omega arith

-- the keys so far, a lawful path, and the segments of what is left of the text are those before and those of all of it
pub record Keyed (front : List Key) (text : List ℕ) (keys : List Key) (rest : List ℕ) : Type 0 where
  pub is : keys ++ segments rest ≡ front ++ segments text
  pub path : is_path keys ≡ true

-- one piece more
pub Keyed-more : (front : List Key) (text : List ℕ) (keys more : List Key) (all piece behind rest : List ℕ) → Keyed front text keys all → all ≡ piece ++ behind → list_all is_key_byte piece ≡ true → IsPastSlash behind rest → more ≡ keys ++ segments piece → is_path more ≡ true → Keyed front text more rest
Keyed-more front text keys more all piece behind rest so_far whole bytes past added path =
    record {
      is = ap (λ ks. ks ++ segments rest) added ∙ append_assoc keys (segments piece) (segments rest) ∙ ap (λ s. keys ++ s) (sym (segments_past all piece behind rest whole bytes past)) ∙ so_far.is;
      path = path;
    }

-- where nothing is left, the keys are those before and the segments
pub keyed_all : (front : List Key) (text : List ℕ) (keys : List Key) (rest : List ℕ) → length rest ≡ 0 → Keyed front text keys rest → keys ≡ front ++ segments text
keyed_all front text keys rest none so_far = sym (append-nil keys) ∙ ap (λ s. keys ++ s) (sym (segments_of_nothing rest none)) ∙ so_far.is

-- there are no more segments than bytes, and one
pub Counted-fits : (text : List ℕ) (n count : ℕ) → n < length (pieces text) → Counted (pieces text) n count → count ≤ length text
Counted-fits text n count h so_far =
    let kept = length-filter (λ p. not (length p == 0)) (take n (pieces text)) in
    let fewer = count_by-le-length (λ p. not (length p == 0)) (take n (pieces text)) in
    let all = length-slice_split (λ b. b == 47) text in
    let slashes = count_by-le-length (λ b. b == 47) text in
    let is = so_far.is in
    let taken : length (take n (pieces text)) ≡ n = length-take-le n (pieces text) (omega arith) in
    omega arith

-- after all pieces, so many segments are there, and all of them are lawful
pub counted_all : (ps : List Key) (n count : ℕ) → n ≡ length ps → Counted ps n count → Some count ≡ cond (list_all is_key (named ps)) (Some (length (named ps))) None
counted_all ps n count h so_far =
    let whole : take n ps ≡ ps = take_all n ps (omega arith) in
    let lawful : list_all is_key (named ps) ≡ true = ap (λ x. list_all is_key (named x)) (sym whole) ∙ so_far.lawful in
    ap Some (so_far.is ∙ ap (λ x. length (named x)) whole) ∙ ap (λ b. cond b (Some (length (named ps))) None) (sym lawful)

list_all-named : (ps : List Key) → list_all is_key (named ps) ≡ list_all (λ p. (length p == 0) || is_key p) ps
list_all-named [] = refl
list_all-named (p ∷ ps) =
    elim (length p == 0) as (λ b. list_all is_key (cond (not b) (p ∷ named ps) (named ps)) ≡ ((b || is_key p) && list_all (λ q. (length q == 0) || is_key q) ps)) [
      | true ↦ list_all-named ps
      | false ↦ ap (λ b. is_key p && b) (list_all-named ps)
    ]

neither_so : (a b : Bool) → a ≡ false → b ≡ false → (a || b) ≡ false
neither_so true b h g = h
neither_so false b h g = g

-- a piece that is neither empty nor a lawful key is an invalid segment
pub unlawful_at : (ps : List Key) (n : ℕ) (piece : Key) → IsPieceAt ps n piece → (length piece == 0) ≡ false → is_key piece ≡ false → list_all is_key (named ps) ≡ false
unlawful_at ps n piece at full bad =
    let test : Key → Bool = λ p. (length p == 0) || is_key p in
    list_all-named ps ∙ list_all_at test ps n piece at.0 (ap test (sym at.1) ∙ neither_so _ _ full bad)

-- among segments that are all lawful keys, a piece that is not empty is one
pub lawful_at : (ps : List Key) (n : ℕ) (piece : Key) → list_all is_key (named ps) ≡ true → IsPieceAt ps n piece → (length piece == 0) ≡ false → is_key piece ≡ true
lawful_at ps n piece all at full =
    elim (is_key piece) as (λ b. is_key piece ≡ b → b ≡ true) [
      | true ↦ λ _. refl
      | false ↦ λ bad. absurd (false≢true (sym (unlawful_at ps n piece at full bad) ∙ all))
    ] refl

-- ---- printed paths

-- the text of keys, a slash before each
abbrev with_slashes : Path → List ℕ
with_slashes p = flat_map (λ key. codes "/" ++ key) p

named-with_slashes : (p : Path) → list_all is_key p ≡ true → named (pieces (with_slashes p)) ≡ p
named-with_slashes [] h = refl
named-with_slashes (k ∷ []) h =
    let key = first_so (is_key k) _ h in
    ap (λ text. named (pieces text)) (append-nil k)
    ∙ ap named (slice_split_none (λ b. b == 47) k (key_without_slash k key))
    ∙ named_full k [] (key_is_not_empty k key)
named-with_slashes (k ∷ l ∷ p) h =
    let key = first_so (is_key k) _ h in
    let rest = second_so (is_key k) _ h in
    ap named (slice_split_at (λ b. b == 47) k 47 (l ++ with_slashes p) (key_without_slash k key) refl)
    ∙ named_full k (pieces (l ++ with_slashes p)) (key_is_not_empty k key)
    ∙ ap (λ q. k ∷ q) (named-with_slashes (l ∷ p) rest)

-- a printed path is read back
pub segments-printed : (p : Path) → is_path p ≡ true → segments (printed p) ≡ p
segments-printed [] h = refl
segments-printed (k ∷ p) h = named-with_slashes (k ∷ p) (path_keys (k ∷ p) h)
