-- The piece at the front: it stands there, and no other does.
use Rattle.std.proofs.Common.{◌≡◌, ℕ, suc, ◌+◌, ◌-◌, ◌<◌, ◌≤◌, Bool, true, false, cond, not, ◌&&◌, ◌||◌, ◌==◌, List, [], ◌∷◌, ◌++◌, length, take, drop, get_or, reverse, Option, Some, None, inl, inr, refl, sym, ap, subst, ◌∙◌, arith, append_assoc, drop-cons, length-append, add-one}
use Rattle.std.proofs.lemmas.Bool.{cases_lt, cases_Bool, eqb-true, eqb-false, eq-eqb, and_parts, not-true, not-false, ne_eqb, and_from}
use Rattle.std.proofs.lemmas.List.{take_at, take-take, take-append-le, take-append-drop, get_or_at, get_or_append_left, get_or-take, get_or_past, length-take-le, append-nil, drop_at, take_all, take_rest}
use Rattle.rules_reader.specs.Plain.{Piece, closed_string, unclosed_string, line_comment, block_comment, unclosed_comment, single, quote, written, escapes, is_escaped, QuotesAreEscaped, ends_line, is_line_end, EndsNoLine, ClosesNothing, opens_comment, StandsBefore}
use Rattle.rules_reader.specs.Working.Front.{first, closes_string, closes_line, closes_comment, string_by, line_by, comment_by, slash_front, front}
use Rattle.rules_reader.proofs.Firsts.{first_none, first_some, first_nothing, first_is}

-- ---- lists

split : (xs : List ℕ) (i : ℕ) → i < length xs → take i xs ++ get_or xs i 0 ∷ drop (suc i) xs ≡ xs
split xs i lt = ap (λ (ys : List ℕ). take i xs ++ ys) (sym (drop-cons xs i 0 lt)) ∙ take-append-drop i xs

drop_past : (xs : List ℕ) (y : ℕ) (ys : List ℕ) → drop (suc (length xs)) (xs ++ y ∷ ys) ≡ ys
drop_past [] y ys = refl
drop_past (x ∷ xs) y ys = drop_past xs y ys

drop_past_two : (xs : List ℕ) (y z : ℕ) (ys : List ℕ) → drop (suc (suc (length xs))) (xs ++ y ∷ z ∷ ys) ≡ ys
drop_past_two [] y z ys = refl
drop_past_two (x ∷ xs) y z ys = drop_past_two xs y z ys

-- ---- strings

escaped_front : (inside behind : List ℕ) (k : ℕ) → k ≤ length inside → is_escaped (inside ++ behind) k ≡ is_escaped inside k
escaped_front inside behind k le = ap (λ (xs : List ℕ). escapes (reverse xs)) (take-append-le k inside behind le)

quote_or : (byte : ℕ) (escaped : Bool) → (byte ≡ quote → escaped ≡ true) → (byte == quote && not escaped) ≡ false
quote_or byte escaped h = elim (cases_Bool (byte == quote)) [
  | inl yes_is ↦ ap (λ (b : Bool). b && not escaped) yes_is ∙ ap not (h (eqb-true byte quote yes_is))
  | inr is_not ↦ ap (λ (b : Bool). b && not escaped) is_not
]

pub string_first : (inside behind : List ℕ) → QuotesAreEscaped inside → is_escaped inside (length inside) ≡ false → first (closes_string (inside ++ quote ∷ behind)) (length (inside ++ quote ∷ behind)) ≡ Some (length inside)
string_first inside behind q e =
    let long = length-append inside (quote ∷ behind) in
    let at : get_or (inside ++ quote ∷ behind) (length inside) 0 ≡ quote = get_or_at inside quote behind 0 (length inside) refl in
    let closed : is_escaped (inside ++ quote ∷ behind) (length inside) ≡ false = escaped_front inside (quote ∷ behind) (length inside) (omega arith) ∙ e in
    first_is (closes_string (inside ++ quote ∷ behind)) (length (inside ++ quote ∷ behind)) (length inside) (omega arith)
    (ap (λ (byte : ℕ). byte == quote && not (is_escaped (inside ++ quote ∷ behind) (length inside))) at ∙ ap not closed)
    (λ k lt. quote_or (get_or (inside ++ quote ∷ behind) k 0) (is_escaped (inside ++ quote ∷ behind) k) (λ is.
    escaped_front inside (quote ∷ behind) k (omega arith) ∙ q k (sym (get_or_append_left inside (quote ∷ behind) 0 k lt) ∙ is)))

pub string_none : (inside : List ℕ) → QuotesAreEscaped inside → first (closes_string inside) (length inside) ≡ None
string_none inside q = first_nothing (closes_string inside) (length inside) (λ k lt. quote_or (get_or inside k 0) (is_escaped inside k) (q k))

escaped_since : (byte : ℕ) (escaped : Bool) → (byte == quote && not escaped) ≡ false → byte ≡ quote → escaped ≡ true
escaped_since byte escaped h is = not-false escaped (sym (ap (λ (b : Bool). b && not escaped) (eq-eqb byte quote is)) ∙ h)

-- a piece that stands before some bytes, and is with them all that there is
pub record Stands (all : List ℕ) (found : Piece × List ℕ) : Type 0 where
  pub whole : written found.0 ++ found.1 ≡ all
  pub stands : StandsBefore found.1 found.0

string_stands : (s : List ℕ) (o : Option ℕ) → first (closes_string s) (length s) ≡ o → Stands (quote ∷ s) (string_by s o)
string_stands s None e = record {
  whole = append-nil (quote ∷ s);
  stands = (
    λ place is. elim (cases_lt place (length s)) [
      | inl lt ↦ escaped_since (get_or s place 0) (is_escaped s place) (first_none (closes_string s) (length s) e place lt) is
      | inr ge ↦ let zero_is : 0 ≡ quote = sym (get_or_past s place 0 ge) ∙ is in absurd (omega arith)
    ],
    refl,
  );
}
string_stands s (Some i) e =
    let f = first_some (closes_string s) (length s) i e in
    let parts = and_parts (get_or s i 0 == quote) (not (is_escaped s i)) f.here in
    let is : get_or s i 0 ≡ quote = eqb-true (get_or s i 0) quote parts.0 in
    let lt : i < length s = f.within in
    let long : length (take i s) ≡ i = length-take-le i s (omega arith) in
    record {
      whole = ap (λ (ys : List ℕ). quote ∷ ys) (append_assoc (take i s) (quote ∷ []) (drop (suc i) s) ∙ ap (λ (b : ℕ). take i s ++ b ∷ drop (suc i) s) (sym is) ∙ split s i lt);
      stands = (
        λ place here. elim (cases_lt place i) [
          | inl below ↦
              ap (λ (xs : List ℕ). escapes (reverse xs)) (take-take place i s (omega arith))
              ∙ escaped_since (get_or s place 0) (is_escaped s place) (first_none (closes_string s) i f.none place below) (sym (get_or-take i s place 0 below) ∙ here)
          | inr ge ↦ let zero_is : 0 ≡ quote = sym (get_or_past (take i s) place 0 (omega arith)) ∙ here in absurd (omega arith)
        ],
        ap (λ (xs : List ℕ). escapes (reverse xs)) (ap (λ (k : ℕ). take k (take i s)) long ∙ take-take i i s (omega arith)) ∙ not-true (is_escaped s i) parts.1,
      );
    }

-- ---- comments to the end of a line

line_none : (words : List ℕ) → EndsNoLine words → first (closes_line words) (length words) ≡ None
line_none words none = first_nothing (closes_line words) (length words) (λ k lt. none k)

line_first : (words behind : List ℕ) (b : ℕ) → EndsNoLine words → ends_line b ≡ true → first (closes_line (words ++ b ∷ behind)) (length (words ++ b ∷ behind)) ≡ Some (length words)
line_first words behind b none h =
    let long = length-append words (b ∷ behind) in
    let at : get_or (words ++ b ∷ behind) (length words) 0 ≡ b = get_or_at words b behind 0 (length words) refl in
    first_is (closes_line (words ++ b ∷ behind)) (length (words ++ b ∷ behind)) (length words) (omega arith) (ap ends_line at ∙ h)
    (λ k lt. ap ends_line (get_or_append_left words (b ∷ behind) 0 k lt) ∙ none k)

line_stands : (w : List ℕ) (o : Option ℕ) → first (closes_line w) (length w) ≡ o → Stands (47 ∷ 47 ∷ w) (line_by w o)
line_stands w None e = record {
  whole = append-nil (47 ∷ 47 ∷ w);
  stands = (
    λ place. elim (cases_lt place (length w)) [
      | inl lt ↦ first_none (closes_line w) (length w) e place lt
      | inr ge ↦ ap ends_line (get_or_past w place 0 ge)
    ],
    refl,
  );
}
line_stands w (Some i) e =
    let f = first_some (closes_line w) (length w) i e in
    let lt : i < length w = f.within in
    let long : length (take i w) ≡ i = length-take-le i w (omega arith) in
    record {
      whole = ap (λ (ys : List ℕ). 47 ∷ 47 ∷ ys) (take-append-drop i w);
      stands = (
        λ place. elim (cases_lt place i) [
          | inl below ↦ ap ends_line (get_or-take i w place 0 below) ∙ first_none (closes_line w) i f.none place below
          | inr ge ↦ ap ends_line (get_or_past (take i w) place 0 (omega arith))
        ],
        ap is_line_end (drop-cons w i 0 lt) ∙ f.here,
      );
    }

-- ---- comments to a `*/`

close_or : (a b : ℕ) → (a ≡ 42 → ¬ (b ≡ 47)) → (a == 42 && b == 47) ≡ false
close_or a b h = elim (cases_Bool (a == 42)) [
  | inl star ↦ ap (λ (t : Bool). t && b == 47) star ∙ ne_eqb b 47 (h (eqb-true a 42 star))
  | inr other_byte ↦ ap (λ (t : Bool). t && b == 47) other_byte
]

no_close : (a b : ℕ) → (a == 42 && b == 47) ≡ false → a ≡ 42 → ¬ (b ≡ 47)
no_close a b h star slash = eqb-false b 47 (sym (ap (λ (t : Bool). t && b == 47) (eq-eqb a 42 star)) ∙ h) slash

comment_none : (words : List ℕ) → ClosesNothing words → first (closes_comment words) (length words) ≡ None
comment_none words none = first_nothing (closes_comment words) (length words) (λ k lt. close_or (get_or words k 0) (get_or words (suc k) 0) (none k))

comment_first : (words behind : List ℕ) → ClosesNothing words → first (closes_comment (words ++ 42 ∷ 47 ∷ behind)) (length (words ++ 42 ∷ 47 ∷ behind)) ≡ Some (length words)
comment_first words behind none =
    let all : List ℕ = words ++ 42 ∷ 47 ∷ behind in
    let long = length-append words (42 ∷ 47 ∷ behind) in
    let star : get_or (words ++ 42 ∷ 47 ∷ behind) (length words) 0 ≡ 42 = get_or_at words 42 (47 ∷ behind) 0 (length words) refl in
    let slash : get_or (words ++ 42 ∷ 47 ∷ behind) (suc (length words)) 0 ≡ 47 =
    ap (λ (xs : List ℕ). get_or xs (suc (length words)) 0) (sym (append_assoc words (42 ∷ []) (47 ∷ behind))) ∙ get_or_at (words ++ 42 ∷ []) 47 behind 0 (suc (length words)) (length-append words (42 ∷ []) ∙ add-one (length words)) in
    first_is (closes_comment (words ++ 42 ∷ 47 ∷ behind)) (length (words ++ 42 ∷ 47 ∷ behind)) (length words) (omega arith)
    (and_from (get_or (words ++ 42 ∷ 47 ∷ behind) (length words) 0 == 42) (get_or (words ++ 42 ∷ 47 ∷ behind) (suc (length words)) 0 == 47) (eq-eqb _ 42 star) (eq-eqb _ 47 slash))
    (λ k lt. close_or (get_or (words ++ 42 ∷ 47 ∷ behind) k 0) (get_or (words ++ 42 ∷ 47 ∷ behind) (suc k) 0) (λ at_star at_slash. elim (cases_lt (suc k) (length words)) [
      | inl below ↦ none k (sym (get_or_append_left words (42 ∷ 47 ∷ behind) 0 k lt) ∙ at_star) (sym (get_or_append_left words (42 ∷ 47 ∷ behind) 0 (suc k) below) ∙ at_slash)
      | inr above ↦
          let same : suc k ≡ length words = omega arith in
          let bad : 42 ≡ 47 = sym star ∙ ap (λ (j : ℕ). get_or (words ++ 42 ∷ 47 ∷ behind) j 0) (sym same) ∙ at_slash in
          absurd (omega arith)
    ]))

comment_stands : (w : List ℕ) (o : Option ℕ) → first (closes_comment w) (length w) ≡ o → Stands (47 ∷ 42 ∷ w) (comment_by w o)
comment_stands w None e = record {
  whole = append-nil (47 ∷ 42 ∷ w);
  stands = (
    λ place star. elim (cases_lt place (length w)) [
      | inl lt ↦ no_close (get_or w place 0) (get_or w (suc place) 0) (first_none (closes_comment w) (length w) e place lt) star
      | inr ge ↦ let zero_is : 0 ≡ 42 = sym (get_or_past w place 0 ge) ∙ star in absurd (omega arith)
    ],
    refl,
  );
}
comment_stands w (Some i) e =
    let f = first_some (closes_comment w) (length w) i e in
    let parts = and_parts (get_or w i 0 == 42) (get_or w (suc i) 0 == 47) f.here in
    let star : get_or w i 0 ≡ 42 = eqb-true (get_or w i 0) 42 parts.0 in
    let slash : get_or w (suc i) 0 ≡ 47 = eqb-true (get_or w (suc i) 0) 47 parts.1 in
    let lt : i < length w = f.within in
    let long : length (take i w) ≡ i = length-take-le i w (omega arith) in
    let more : suc i < length w = elim (cases_lt (suc i) (length w)) [
      | inl h ↦ h
      | inr ge ↦ absurd (omega (arith, slash, get_or_past w (suc i) 0 ge))
    ] in
    record {
      whole = ap (λ (ys : List ℕ). 47 ∷ 42 ∷ ys) (append_assoc (take i w) (42 ∷ 47 ∷ []) (drop (suc (suc i)) w)
          ∙ ap (λ (b : ℕ). take i w ++ 42 ∷ b ∷ drop (suc (suc i)) w) (sym slash)
          ∙ ap (λ (b : ℕ). take i w ++ b ∷ get_or w (suc i) 0 ∷ drop (suc (suc i)) w) (sym star)
          ∙ ap (λ (ys : List ℕ). take i w ++ get_or w i 0 ∷ ys) (sym (drop-cons w (suc i) 0 more)) ∙ split w i lt);
      stands = λ place at_star at_slash. elim (cases_lt (suc place) i) [
        | inl below ↦
            no_close (get_or w place 0) (get_or w (suc place) 0) (first_none (closes_comment w) i f.none place (omega arith))
            (sym (get_or-take i w place 0 (omega arith)) ∙ at_star) (sym (get_or-take i w (suc place) 0 below) ∙ at_slash)
        | inr ge ↦ let zero_is : 0 ≡ 47 = sym (get_or_past (take i w) (suc place) 0 (omega arith)) ∙ at_slash in absurd (omega arith)
      ];
    }

-- ---- what comes first stands there

slash_stands : (bs : List ℕ) → Stands (47 ∷ bs) (slash_front bs)
slash_stands [] = record { whole = refl; stands = refl }
slash_stands (b ∷ bs) = elim (cases_Bool (b == 47)) [
  | inl slash ↦ subst (λ (f : Piece × List ℕ). Stands (47 ∷ b ∷ bs) f) (sym (ap (λ (t : Bool). cond t (line_by bs (first (closes_line bs) (length bs))) (cond (b == 42) (comment_by bs (first (closes_comment bs) (length bs))) (single 47, b ∷ bs))) slash))
      (subst (λ (x : ℕ). Stands (47 ∷ x ∷ bs) (line_by bs (first (closes_line bs) (length bs)))) (sym (eqb-true b 47 slash)) (line_stands bs (first (closes_line bs) (length bs)) refl))
  | inr no_slash ↦ subst (λ (f : Piece × List ℕ). Stands (47 ∷ b ∷ bs) f) (sym (ap (λ (t : Bool). cond t (line_by bs (first (closes_line bs) (length bs))) (cond (b == 42) (comment_by bs (first (closes_comment bs) (length bs))) (single 47, b ∷ bs))) no_slash))
      (elim (cases_Bool (b == 42)) [
        | inl star ↦ subst (λ (f : Piece × List ℕ). Stands (47 ∷ b ∷ bs) f) (sym (ap (λ (t : Bool). cond t (comment_by bs (first (closes_comment bs) (length bs))) (single 47, b ∷ bs)) star))
            (subst (λ (x : ℕ). Stands (47 ∷ x ∷ bs) (comment_by bs (first (closes_comment bs) (length bs)))) (sym (eqb-true b 42 star)) (comment_stands bs (first (closes_comment bs) (length bs)) refl))
        | inr no_star ↦ subst (λ (f : Piece × List ℕ). Stands (47 ∷ b ∷ bs) f) (sym (ap (λ (t : Bool). cond t (comment_by bs (first (closes_comment bs) (length bs))) (single 47, b ∷ bs)) no_star))
            (record { whole = refl; stands = ap (λ (t : Bool). t || b == 42) no_slash ∙ no_star })
      ])
]

pub front_stands : (b : ℕ) (bs : List ℕ) → Stands (b ∷ bs) (front b bs)
front_stands b bs = elim (cases_Bool (b == quote)) [
  | inl is ↦ subst (λ (f : Piece × List ℕ). Stands (b ∷ bs) f) (sym (ap (λ (t : Bool). cond t (string_by bs (first (closes_string bs) (length bs))) (cond (b == 47) (slash_front bs) (single b, bs))) is))
      (subst (λ (x : ℕ). Stands (x ∷ bs) (string_by bs (first (closes_string bs) (length bs)))) (sym (eqb-true b quote is)) (string_stands bs (first (closes_string bs) (length bs)) refl))
  | inr no_quote ↦ subst (λ (f : Piece × List ℕ). Stands (b ∷ bs) f) (sym (ap (λ (t : Bool). cond t (string_by bs (first (closes_string bs) (length bs))) (cond (b == 47) (slash_front bs) (single b, bs))) no_quote))
      (elim (cases_Bool (b == 47)) [
        | inl slash ↦ subst (λ (f : Piece × List ℕ). Stands (b ∷ bs) f) (sym (ap (λ (t : Bool). cond t (slash_front bs) (single b, bs)) slash))
            (subst (λ (x : ℕ). Stands (x ∷ bs) (slash_front bs)) (sym (eqb-true b 47 slash)) (slash_stands bs))
        | inr no_slash ↦ subst (λ (f : Piece × List ℕ). Stands (b ∷ bs) f) (sym (ap (λ (t : Bool). cond t (slash_front bs) (single b, bs)) no_slash))
            (record { whole = refl; stands = ap (λ (t : Bool). t || (b == 47 && opens_comment bs)) no_quote ∙ ap (λ (t : Bool). t && opens_comment bs) no_slash })
      ])
]

-- ---- no other piece does

pub front_of : List ℕ → Piece × List ℕ
front_of [] = (single 0, [])
front_of (b ∷ bs) = front b bs

none_of_both : (a b : Bool) → (a || b) ≡ false → (a ≡ false) × (b ≡ false)
none_of_both true b e = absurd cc
none_of_both false b e = (refl, e)

-- a slash that opens no comment
lone_slash : (behind : List ℕ) → opens_comment behind ≡ false → slash_front behind ≡ (single 47, behind)
lone_slash [] h = refl
lone_slash (b ∷ bs) h =
    let none = none_of_both (b == 47) (b == 42) h in
    ap (λ (t : Bool). cond t (line_by bs (first (closes_line bs) (length bs))) (cond (b == 42) (comment_by bs (first (closes_comment bs) (length bs))) (single 47, b ∷ bs))) none.0
    ∙ ap (λ (t : Bool). cond t (comment_by bs (first (closes_comment bs) (length bs))) (single 47, b ∷ bs)) none.1

other_front : (b : ℕ) (behind : List ℕ) → (b == 47 && opens_comment behind) ≡ false → cond (b == 47) (slash_front behind) (single b, behind) ≡ (single b, behind)
other_front b behind h = elim (cases_Bool (b == 47)) [
  | inl slash ↦
      ap (λ (t : Bool). cond t (slash_front behind) (single b, behind)) slash
      ∙ lone_slash behind (sym (ap (λ (t : Bool). t && opens_comment behind) slash) ∙ h)
      ∙ ap (λ (x : ℕ). (single x, behind)) (sym (eqb-true b 47 slash))
  | inr no_slash ↦ ap (λ (t : Bool). cond t (slash_front behind) (single b, behind)) no_slash
]

pub front_is : (piece : Piece) (behind : List ℕ) → StandsBefore behind piece → front_of (written piece ++ behind) ≡ (piece, behind)
unfolding front_of
front_is (closed_string inside) behind (q, e) =
    let all : (inside ++ quote ∷ []) ++ behind ≡ inside ++ quote ∷ behind = append_assoc inside (quote ∷ []) behind in
    ap (λ (xs : List ℕ). string_by xs (first (closes_string xs) (length xs))) all
    ∙ ap (string_by (inside ++ quote ∷ behind)) (string_first inside behind q e)
    ∙ ap (λ (xs : List ℕ). (closed_string xs, drop (suc (length inside)) (inside ++ quote ∷ behind))) (take_at inside (quote ∷ behind) (length inside) refl)
    ∙ ap (λ (xs : List ℕ). (closed_string inside, xs)) (drop_past inside quote behind)
front_is (unclosed_string inside) behind (q, e) =
    let all : inside ++ behind ≡ inside = ap (λ (xs : List ℕ). inside ++ xs) e ∙ append-nil inside in
    ap (λ (xs : List ℕ). string_by xs (first (closes_string xs) (length xs))) all
    ∙ ap (string_by inside) (string_none inside q)
    ∙ ap (λ (xs : List ℕ). (unclosed_string inside, xs)) (sym e)
front_is (line_comment words) [] (none, e) =
    ap (λ (xs : List ℕ). line_by xs (first (closes_line xs) (length xs))) (append-nil words) ∙ ap (line_by words) (line_none words none)
front_is (line_comment words) (b ∷ behind) (none, e) =
    ap (line_by (words ++ b ∷ behind)) (line_first words behind b none e)
    ∙ ap (λ (xs : List ℕ). (line_comment xs, drop (length words) (words ++ b ∷ behind))) (take_at words (b ∷ behind) (length words) refl)
    ∙ ap (λ (xs : List ℕ). (line_comment words, xs)) (drop_at words (b ∷ behind) (length words) refl)
front_is (block_comment words) behind none =
    let all : (words ++ 42 ∷ 47 ∷ []) ++ behind ≡ words ++ 42 ∷ 47 ∷ behind = append_assoc words (42 ∷ 47 ∷ []) behind in
    ap (λ (xs : List ℕ). comment_by xs (first (closes_comment xs) (length xs))) all
    ∙ ap (comment_by (words ++ 42 ∷ 47 ∷ behind)) (comment_first words behind none)
    ∙ ap (λ (xs : List ℕ). (block_comment xs, drop (suc (suc (length words))) (words ++ 42 ∷ 47 ∷ behind))) (take_at words (42 ∷ 47 ∷ behind) (length words) refl)
    ∙ ap (λ (xs : List ℕ). (block_comment words, xs)) (drop_past_two words 42 47 behind)
front_is (unclosed_comment words) behind (none, e) =
    let all : words ++ behind ≡ words = ap (λ (xs : List ℕ). words ++ xs) e ∙ append-nil words in
    ap (λ (xs : List ℕ). comment_by xs (first (closes_comment xs) (length xs))) all
    ∙ ap (comment_by words) (comment_none words none)
    ∙ ap (λ (xs : List ℕ). (unclosed_comment words, xs)) (sym e)
front_is (single b) behind h =
    let parts = none_of_both (b == quote) (b == 47 && opens_comment behind) h in
    ap (λ (t : Bool). cond t (string_by behind (first (closes_string behind) (length behind))) (cond (b == 47) (slash_front behind) (single b, behind))) parts.0
    ∙ other_front b behind parts.1

-- ---- what stands behind it, in slices

pub uncons : (xs : List ℕ) → 1 ≤ length xs → get_or xs 0 0 ∷ take (length xs - 1) (drop 1 xs) ≡ xs
uncons [] h = absurd (omega arith)
uncons (x ∷ xs) h = ap (λ (ys : List ℕ). x ∷ ys) (take_all (length (x ∷ xs) - 1) xs (omega arith))

pub string_after : (b place : ℕ) (s : List ℕ) → b ≡ 34 → Some place ≡ first (closes_string s) (length s) → take (length s - (place + 1)) (drop (place + 1) s) ≡ (front b s).1
string_after b place s is e =
    take_rest s (place + 1)
    ∙ ap (λ (k : ℕ). drop k s) (add-one place)
    ∙ ap (λ (o : Option ℕ). (string_by s o).1) e
    ∙ ap (λ (x : ℕ). (front x s).1) (sym is)

pub comment_after : (bs w : List ℕ) (place : ℕ) → w ≡ take (length bs - 1) (drop 1 bs) → 1 ≤ length bs → get_or bs 0 0 ≡ 42 → Some place ≡ first (closes_comment w) (length w) → take (length w - (place + 2)) (drop (place + 2) w) ≡ (slash_front bs).1
comment_after bs w place words some is e =
    let two : place + 2 ≡ suc (suc place) = omega arith in
    take_rest w (place + 2)
    ∙ ap (λ (k : ℕ). drop k w) two
    ∙ ap (λ (o : Option ℕ). (comment_by w o).1) e
    ∙ ap (λ (x : ℕ). (slash_front (x ∷ w)).1) (sym is)
    ∙ ap (λ (xs : List ℕ). (slash_front (get_or bs 0 0 ∷ xs)).1) words
    ∙ ap (λ (xs : List ℕ). (slash_front xs).1) (uncons bs some)
