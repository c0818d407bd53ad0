-- Which token stands at the front of a text.
use Rattle.std.proofs.Common.{◌≡◌, ℕ, ◌+◌, ◌<◌, ◌≤◌, ◌-◌, Bool, true, false, cond, ◌&&◌, ◌||◌, not, List, [], ◌∷◌, ◌++◌, length, take, drop, get_or, Option, Some, None, refl, sym, ap, subst, ◌∙◌, arith, inl, inr, ◌⊎◌, eqb, append_assoc, length-append, IsSome}
use Rattle.std.specs.Prelude.{nat_le, option_map, unwrap_or}
use Rattle.std.specs.Str.{bytes_eq}
use Rattle.std.specs.List.{list_all}
use Rattle.std.specs.Char.{is_ascii_digit}
use Rattle.std.specs.Str.{IsUtf8, IsCharBoundary}
use Rattle.std.proofs.lemmas.Bool.{le-leb, eqb-true, eqb-false, eq-eqb}
use Rattle.std.proofs.lemmas.Bool.Decides.{nat_tests}
use Rattle.std.proofs.lemmas.Str.{IsCharBoundary-after_ascii}
use Rattle.std.proofs.lemmas.List.{take-append-drop, append-nil, get_or_at, take_at, drop_at}
use Rattle.expr_tokens.specs.declared.fault.ExprFault.TheVariants.{BadExpression, NotInProfile}
use Rattle.expr_tokens.specs.declared.fault.Excluded.TheVariants.{Slash, Number}
use Rattle.expr_tokens.specs.declared.token.Token.{Token}
use Rattle.expr_tokens.specs.declared.token.Token.TheVariants as t
use Rattle.expr_tokens.specs.Words.{is_name_start, is_name_byte, is_numeral, numeral, greatest, first_is, begins_digit, begins_fraction, ends_number}
use Rattle.expr_tokens.specs.Quoted.{is_quote, meaning, escape_at, before, closed, unquoted, escaped}
use Rattle.expr_tokens.specs.Token.{signs, literals, word_in, number, name, named, capture, token_of}
use Rattle.expr_tokens.specs.Spelling.{IsWhole, ComesFirst}
use Rattle.expr_tokens.specs.Working.Scanning.{IsRun, IsFaultFrom, begins_name, is_other, first_in, IsInside, ClosesAt, FailsAt}
use Rattle.expr_tokens.specs.Faults.{IsContent, BeginsBadEscape, BeginsUnclosed}
use Rattle.expr_tokens.proofs.Runs.{and_true, or_false, not_true, seam, start_no_digit, quote_no_digit, quote_no_start, quote_ascii}
use Rattle.expr_tokens.proofs.Texts.{tail_is}
use Rattle.expr_tokens.proofs.Signs.{signs_ordered, signs_low, is_low, sign_found, sign_none}

-- which part of the table of tokens a first byte leads to

module _ (d : Bool) (c : ℕ) (w : List ℕ) where
  other_of : Option Token
  other_of = cond (eqb c 36) (capture w) (word_in signs (c ∷ w))

  pub token_number : is_ascii_digit c ≡ true → token_of d (c ∷ w) ≡ number (c ∷ w)
  token_number e = ap (λ b. cond b (number (c ∷ w)) (cond (is_name_start c) (name d (c ∷ w)) (cond (is_quote c) (option_map t.Text (meaning (c ∷ w))) (cond (eqb c 36) (capture w) (word_in signs (c ∷ w)))))) e

  past_number : is_ascii_digit c ≡ false → token_of d (c ∷ w) ≡ cond (is_name_start c) (name d (c ∷ w)) (cond (is_quote c) (option_map t.Text (meaning (c ∷ w))) (cond (eqb c 36) (capture w) (word_in signs (c ∷ w))))
  past_number e = ap (λ b. cond b (number (c ∷ w)) (cond (is_name_start c) (name d (c ∷ w)) (cond (is_quote c) (option_map t.Text (meaning (c ∷ w))) (cond (eqb c 36) (capture w) (word_in signs (c ∷ w)))))) e

  pub token_name : is_name_start c ≡ true → token_of d (c ∷ w) ≡ name d (c ∷ w)
  token_name e = past_number (start_no_digit c e) ∙ ap (λ b. cond b (name d (c ∷ w)) (cond (is_quote c) (option_map t.Text (meaning (c ∷ w))) (cond (eqb c 36) (capture w) (word_in signs (c ∷ w))))) e

  pub past_name : is_ascii_digit c ≡ false → is_name_start c ≡ false → token_of d (c ∷ w) ≡ cond (is_quote c) (option_map t.Text (meaning (c ∷ w))) (cond (eqb c 36) (capture w) (word_in signs (c ∷ w)))
  past_name e f = past_number e ∙ ap (λ b. cond b (name d (c ∷ w)) (cond (is_quote c) (option_map t.Text (meaning (c ∷ w))) (cond (eqb c 36) (capture w) (word_in signs (c ∷ w))))) f

  pub token_text : is_quote c ≡ true → token_of d (c ∷ w) ≡ option_map t.Text (meaning (c ∷ w))
  token_text e = past_name (quote_no_digit c e) (quote_no_start c e) ∙ ap (λ b. cond b (option_map t.Text (meaning (c ∷ w))) (cond (eqb c 36) (capture w) (word_in signs (c ∷ w)))) e

  pub token_sign : is_ascii_digit c ≡ false → is_name_start c ≡ false → is_quote c ≡ false → eqb c 36 ≡ false → token_of d (c ∷ w) ≡ word_in signs (c ∷ w)
  token_sign e f g h = past_name e f ∙ ap (λ b. cond b (option_map t.Text (meaning (c ∷ w))) (cond (eqb c 36) (capture w) (word_in signs (c ∷ w)))) g ∙ ap (λ b. cond b (capture w) (word_in signs (c ∷ w))) h

pub token_capture : (d : Bool) (w : List ℕ) → token_of d (36 ∷ w) ≡ capture w
token_capture d w = refl

-- what fails a test, fails it wherever it goes on
pub broken : (p : ℕ → Bool) (w : List ℕ) (c : ℕ) (more : List ℕ) → p c ≡ false → list_all p (w ++ c ∷ more) ≡ false
broken p [] c more e = ap (λ x. x && list_all p more) e
broken p (x ∷ w) c more e = go (p x) (broken p w c more e)
  where
    go : (b : Bool) → list_all p (w ++ c ∷ more) ≡ false → (b && list_all p (w ++ c ∷ more)) ≡ false
    go true h = h
    go false h = refl

-- a run that is followed by no more of it does not go on
longer : (p : ℕ → Bool) (w rest : List ℕ) → first_is p rest ≡ false → (c : ℕ) (more others : List ℕ) → rest ≡ c ∷ (more ++ others) → list_all p (w ++ c ∷ more) ≡ false
longer p w rest h c more others e = broken p w c more (ap (first_is p) (sym e) ∙ h)

-- numbers

number_is : (w : List ℕ) → list_all is_ascii_digit w ≡ true → numeral w ≤ greatest → number w ≡ Some (t.Number (numeral w))
number_is w h k = ap (λ b. cond (b && nat_le (numeral w) greatest) (Some (t.Number (numeral w))) None) h ∙ ap (λ b. cond b (Some (t.Number (numeral w))) None) (le-leb (numeral w) greatest k)

number_not : (w : List ℕ) → list_all is_ascii_digit w ≡ false → number w ≡ None
number_not w h = ap (λ b. cond (b && nat_le (numeral w) greatest) (Some (t.Number (numeral w))) None) h

pub digits_end : (rest : List ℕ) → begins_digit rest ≡ false → begins_fraction rest ≡ false → ends_number rest ≡ true
digits_end rest h k = ap (λ b. not (b || begins_fraction rest)) h ∙ ap not k

digits_stand : (d : Bool) (w rest : List ℕ) → list_all is_ascii_digit w ≡ true → begins_digit (w ++ rest) ≡ true → begins_digit rest ≡ false → begins_fraction rest ≡ false → numeral w ≤ greatest → ComesFirst d (w ++ rest) (t.Number (numeral w)) rest
digits_stand d [] rest h b s f k = absurd cc
digits_stand d (x ∷ w) rest h b s f k = record {
  word = x ∷ w;
  parts = refl;
  spells = token_number d x w b ∙ number_is (x ∷ w) h k;
  longest = λ c more others e. token_number d x (w ++ c ∷ more) b ∙ number_not (x ∷ (w ++ c ∷ more)) (longer is_ascii_digit (x ∷ w) rest s c more others e);
  whole = digits_end rest s f;
}

pub number_stands : (text : List ℕ) (n value : ℕ) → IsRun is_ascii_digit text n → begins_digit text ≡ true → begins_fraction (drop n text) ≡ false → value ≡ numeral (take n text) → value ≤ greatest → (d : Bool) → ComesFirst d text (t.Number value) (drop n text)
number_stands text n value r b f v k d =
    let e = take-append-drop n text in
    let s = digits_stand d (take n text) (drop n text) r.passes (ap begins_digit e ∙ b) r.stops f (subst (λ (x : ℕ). x ≤ greatest) v k) in
    subst (λ (z : List ℕ). ComesFirst d z (t.Number value) (drop n text)) e (subst (λ (x : ℕ). ComesFirst d (take n text ++ drop n text) (t.Number x) (drop n text)) (sym v) s)

is_numeral_run : (w rest : List ℕ) → list_all is_ascii_digit w ≡ true → begins_digit (w ++ rest) ≡ true → begins_digit rest ≡ false → is_numeral w ≡ true
is_numeral_run [] rest h b s = absurd cc
is_numeral_run (x ∷ w) rest h b s = h

pub number_fraction : (place : ℕ) (text : List ℕ) (n : ℕ) → IsRun is_ascii_digit text n → begins_digit text ≡ true → begins_fraction (drop n text) ≡ true → IsFaultFrom place text (NotInProfile Number)
number_fraction place text n r b f =
    let e = take-append-drop n text in
    (place, (refl, record { digits = take n text; rest = drop n text; parts = sym e; are_digits = is_numeral_run (take n text) (drop n text) r.passes (ap begins_digit e ∙ b) r.stops; fraction = f }))

pub number_large : (place : ℕ) (text : List ℕ) (n : ℕ) → IsRun is_ascii_digit text n → begins_digit text ≡ true → begins_fraction (drop n text) ≡ false → greatest < numeral (take n text) → IsFaultFrom place text (BadExpression place)
number_large place text n r b f k =
    let e = take-append-drop n text in
    (place, (refl, 0, omega arith, inl (refl, record { digits = take n text; rest = drop n text; parts = sym e; are_digits = is_numeral_run (take n text) (drop n text) r.passes (ap begins_digit e ∙ b) r.stops; whole = digits_end (drop n text) r.stops f; large = k })))

-- names

name_is : (d : Bool) (w : List ℕ) → list_all is_name_byte w ≡ true → name d w ≡ Some (named d w)
name_is d w h = ap (λ b. cond b (Some (named d w)) None) h

name_not : (d : Bool) (w : List ℕ) → list_all is_name_byte w ≡ false → name d w ≡ None
name_not d w h = ap (λ b. cond b (Some (named d w)) None) h

-- a token of a name may stand before anything
abbrev pub is_plain : Token → Bool
is_plain (t.Number n) = false
is_plain _ = true

pub plain_whole : (u : Token) (rest : List ℕ) → is_plain u ≡ true → IsWhole u rest
plain_whole (t.Number n) rest h = absurd cc
plain_whole _ rest h = tt

pub plain_in : (ss : List (List ℕ × Token)) (w : List ℕ) (u : Token) → list_all (λ s. is_plain s.1) ss ≡ true → word_in ss w ≡ Some u → is_plain u ≡ true
plain_in [] w u h e = absurd cc
plain_in (s ∷ ss) w u h e =
    let p = and_true (is_plain s.1) (list_all (λ z. is_plain z.1) ss) h in
    go (bytes_eq s.0 w) e p.0 (plain_in ss w u p.1)
  where
    go : (b : Bool) → cond b (Some s.1) (word_in ss w) ≡ Some u → is_plain s.1 ≡ true → (word_in ss w ≡ Some u → is_plain u ≡ true) → is_plain u ≡ true
    go true e' q next = let same : s.1 ≡ u = cc in subst (λ (z : Token). is_plain z ≡ true) same q
    go false e' q next = next e'

named_plain : (d : Bool) (w : List ℕ) → is_plain (named d w) ≡ true
named_plain true w = refl
named_plain false w = go (word_in literals w) refl
  where
    go : (o : Option Token) → word_in literals w ≡ o → is_plain (unwrap_or o (t.Name w)) ≡ true
    go None e = refl
    go (Some u) e = plain_in literals w u refl e

name_run_stands : (d : Bool) (w rest : List ℕ) → list_all is_name_byte w ≡ true → begins_name (w ++ rest) ≡ true → first_is is_name_byte rest ≡ false → begins_name rest ≡ false → ComesFirst d (w ++ rest) (named d w) rest
name_run_stands d [] rest h b s k = absurd cc
name_run_stands d (x ∷ w) rest h b s k = record {
  word = x ∷ w;
  parts = refl;
  spells = token_name d x w b ∙ name_is d (x ∷ w) h;
  longest = λ c more others e. token_name d x (w ++ c ∷ more) b ∙ name_not d (x ∷ (w ++ c ∷ more)) (longer is_name_byte (x ∷ w) rest s c more others e);
  whole = plain_whole (named d (x ∷ w)) rest (named_plain d (x ∷ w));
}

-- what may not go on a name begins none
byte_start : (rest : List ℕ) → first_is is_name_byte rest ≡ false → begins_name rest ≡ false
byte_start [] h = refl
byte_start (c ∷ cs) h = go (is_name_start c) h
  where
    go : (b : Bool) → (b || is_ascii_digit c) ≡ false → b ≡ false
    go true e = absurd cc
    go false e = refl

pub name_stands : (d : Bool) (text : List ℕ) (n : ℕ) → IsRun is_name_byte text n → begins_name text ≡ true → ComesFirst d text (named d (take n text)) (drop n text)
name_stands d text n r b =
    let e = take-append-drop n text in
    subst (λ (z : List ℕ). ComesFirst d z (named d (take n text)) (drop n text)) e (name_run_stands d (take n text) (drop n text) r.passes (ap begins_name e ∙ b) r.stops (byte_start (drop n text) r.stops))

-- captures

capture_is : (w rest : List ℕ) → list_all is_name_byte w ≡ true → begins_name (w ++ rest) ≡ true → begins_name rest ≡ false → capture w ≡ Some (t.Capture w)
capture_is [] rest h b k = absurd cc
capture_is (x ∷ w) rest h b k = ap (λ z. cond (z && list_all is_name_byte (x ∷ w)) (Some (t.Capture (x ∷ w))) None) b ∙ ap (λ z. cond z (Some (t.Capture (x ∷ w))) None) h

capture_long : (w : List ℕ) → list_all is_name_byte w ≡ false → capture w ≡ None
capture_long [] h = absurd cc
capture_long (x ∷ w) h = go (is_name_start x)
  where
    go : (b : Bool) → cond (b && list_all is_name_byte (x ∷ w)) (Some (t.Capture (x ∷ w))) None ≡ None
    go true = ap (λ z. cond z (Some (t.Capture (x ∷ w))) None) h
    go false = refl

pub capture_stands : (behind : List ℕ) (n : ℕ) → IsRun is_name_byte behind n → begins_name behind ≡ true → (d : Bool) → ComesFirst d (36 ∷ behind) (t.Capture (take n behind)) (drop n behind)
capture_stands behind n r b d =
    let e = take-append-drop n behind in
    record {
      word = 36 ∷ take n behind;
      parts = ap (λ (z : List ℕ). 36 ∷ z) (sym e);
      spells = capture_is (take n behind) (drop n behind) r.passes (ap begins_name e ∙ b) (byte_start (drop n behind) r.stops);
      longest = λ c more others k. capture_long (take n behind ++ c ∷ more) (longer is_name_byte (take n behind) (drop n behind) r.stops c more others k);
      whole = tt;
    }

capture_none : (w : List ℕ) → begins_name w ≡ false → capture w ≡ None
capture_none [] h = refl
capture_none (x ∷ w) h = ap (λ z. cond (z && list_all is_name_byte (x ∷ w)) (Some (t.Capture (x ∷ w))) None) h

begins_front : (w others : List ℕ) → begins_name (w ++ others) ≡ false → begins_name w ≡ false
begins_front [] others h = refl
begins_front (x ∷ w) others h = h

dollar_none : (behind word others : List ℕ) → begins_name behind ≡ false → 36 ∷ behind ≡ word ++ others → token_of false word ≡ None
dollar_none behind [] others h e = refl
dollar_none behind (x ∷ w) others h e =
    let one : 36 ≡ x = cc in
    let two : behind ≡ w ++ others = cc in
    subst (λ (z : ℕ). token_of false (z ∷ w) ≡ None) one (capture_none w (begins_front w others (ap begins_name (sym two) ∙ h)))

pub capture_fails : (place : ℕ) (behind : List ℕ) → begins_name behind ≡ false → IsFaultFrom place (36 ∷ behind) (BadExpression place)
capture_fails place behind h = (
  place,
  (
    refl,
    0,
    omega arith,
    inr (inl (
      refl,
      record {
        first = 36;
        rest = behind;
        parts = refl;
        no_digit = refl;
        no_quote = refl;
        no_slash = λ e. absurd cc;
        none = λ word others e. dollar_none behind word others h e;
      },
    )),
  ),
)

-- texts

pub unquoted_end : (q : ℕ) (rest : List ℕ) → unquoted q (q ∷ rest) ≡ closed rest
unquoted_end q rest = ap (λ b. cond b (closed rest) (cond (eqb q 92) (escaped q rest) (before (q ∷ []) (unquoted q rest)))) (eq-eqb q q refl)

pub inside_meaning : (q : ℕ) (content : List ℕ) → is_quote q ≡ true → (i : IsInside q content) → meaning (q ∷ (content ++ q ∷ [])) ≡ Some (i.says ++ [])
inside_meaning q content h i = ap (λ b. cond b (unquoted q (content ++ q ∷ [])) None) h ∙ i.goes_on (q ∷ []) ∙ ap (before i.says) (unquoted_end q [])

pub inside_content : (q : ℕ) (content : List ℕ) → is_quote q ≡ true → IsInside q content → IsContent q content
inside_content q content h i = subst (λ (o : Option (List ℕ)). IsSome o) (sym (inside_meaning q content h i)) refl

pub closes_parts : (q : ℕ) (body : List ℕ) (on : ℕ) → (k : ClosesAt q body on) → (take (on + 2) (q ∷ body) ≡ q ∷ (k.content ++ q ∷ [])) × (drop (on + 2) (q ∷ body) ≡ k.rest)
closes_parts q body on k =
    let word : List ℕ = q ∷ (k.content ++ q ∷ []) in
    let e : q ∷ body ≡ (q ∷ (k.content ++ q ∷ [])) ++ k.rest = ap (λ (z : List ℕ). q ∷ z) (k.parts ∙ sym (append_assoc k.content (q ∷ []) k.rest)) in
    let n : length (q ∷ (k.content ++ q ∷ [])) ≡ on + 2 = omega (arith, k.on_is, length-append k.content (q ∷ [])) in
    (ap (take (on + 2)) e ∙ take_at (q ∷ (k.content ++ q ∷ [])) k.rest (on + 2) n, ap (drop (on + 2)) e ∙ drop_at (q ∷ (k.content ++ q ∷ [])) k.rest (on + 2) n)

closes_longest : (d : Bool) (q : ℕ) (content : List ℕ) (c : ℕ) (more : List ℕ) → is_quote q ≡ true → IsInside q content → token_of d ((q ∷ (content ++ q ∷ [])) ++ c ∷ more) ≡ None
closes_longest d q content c more h i =
    let e : unquoted q ((content ++ q ∷ []) ++ c ∷ more) ≡ None = ap (unquoted q) (append_assoc content (q ∷ []) (c ∷ more)) ∙ i.goes_on (q ∷ c ∷ more) ∙ ap (before i.says) (unquoted_end q (c ∷ more)) in
    token_text d q ((content ++ q ∷ []) ++ c ∷ more) h ∙ ap (λ b. option_map t.Text (cond b (unquoted q ((content ++ q ∷ []) ++ c ∷ more)) None)) h ∙ ap (option_map t.Text) e

pub text_stands : (q : ℕ) (body : List ℕ) (on : ℕ) (m : List ℕ) → is_quote q ≡ true → ClosesAt q body on → meaning (take (on + 2) (q ∷ body)) ≡ Some m → (d : Bool) → ComesFirst d (q ∷ body) (t.Text m) (drop (on + 2) (q ∷ body))
text_stands q body on m h k e d =
    let p = closes_parts q body on k in
    let f : meaning (q ∷ (k.content ++ q ∷ [])) ≡ Some m = ap meaning (sym p.0) ∙ e in
    let s : ComesFirst d (q ∷ body) (t.Text m) k.rest = record {
      word = q ∷ (k.content ++ q ∷ []);
      parts = ap (λ (z : List ℕ). q ∷ z) (k.parts ∙ sym (append_assoc k.content (q ∷ []) k.rest));
      spells = token_text d q (k.content ++ q ∷ []) h ∙ ap (option_map t.Text) f;
      longest = λ c more others r. closes_longest d q k.content c more h k.inside;
      whole = tt;
    } in
    subst (λ (z : List ℕ). ComesFirst d (q ∷ body) (t.Text m) z) (sym p.1) s

pub text_means : (q : ℕ) (body : List ℕ) (on : ℕ) → is_quote q ≡ true → ClosesAt q body on → IsSome (meaning (take (on + 2) (q ∷ body)))
text_means q body on h k = subst (λ (o : List ℕ). IsSome (meaning o)) (sym (closes_parts q body on k).0) (inside_content q k.content h k.inside)

-- the closing quote is ASCII, so the text may be cut behind it
pub text_boundary : (q : ℕ) (body : List ℕ) (on : ℕ) → is_quote q ≡ true → ClosesAt q body on → IsUtf8 (q ∷ body) → IsCharBoundary (q ∷ body) (on + 2)
text_boundary q body on h k u =
    let e : q ∷ body ≡ (q ∷ k.content) ++ q ∷ k.rest = ap (λ (z : List ℕ). q ∷ z) k.parts in
    let at : get_or (q ∷ body) (on + 1) 0 ≡ q = ap (λ (z : List ℕ). get_or z (on + 1) 0) e ∙ get_or_at (q ∷ k.content) q k.rest 0 (on + 1) (omega (arith, k.on_is)) in
    let n : on + 1 < length (q ∷ body) = omega (arith, k.on_is, ap length k.parts, length-append k.content (q ∷ k.rest)) in
    subst (λ (i : ℕ). IsCharBoundary (q ∷ body) i) (omega arith) (IsCharBoundary-after_ascii (q ∷ body) (on + 1) u n (let low = quote_ascii q h in omega arith))

pub text_fails : (place q : ℕ) (body : List ℕ) (on : ℕ) → is_quote q ≡ true → FailsAt q body on → IsFaultFrom place (q ∷ body) (BadExpression (place + 1 + on))
text_fails place q body on h k = (place + 1 + on, (refl, 1 + on, omega arith, inr (inr (go k.fails))))
  where
    go : (k.rest ≡ []) ⊎ ((more : List ℕ) × (k.rest ≡ 92 ∷ more) × (escape_at more ≡ None)) → BeginsBadEscape (q ∷ body) (1 + on) ⊎ BeginsUnclosed (q ∷ body) (1 + on)
    go (inl e) = inr (record {
      quote = q;
      content = k.content;
      parts = ap (λ (z : List ℕ). q ∷ z) (k.parts ∙ ap (λ (z : List ℕ). k.content ++ z) e ∙ append-nil k.content);
      is_content = inside_content q k.content h k.inside;
      on_is = ap (λ (z : ℕ). 1 + z) k.on_is;
    })
    go (inr b) = inl (record {
      quote = q;
      content = k.content;
      rest = b.0;
      parts = ap (λ (z : List ℕ). q ∷ z) (k.parts ∙ ap (λ (z : List ℕ). k.content ++ z) b.1);
      is_content = inside_content q k.content h k.inside;
      bad = b.2;
      on_is = ap (λ (z : ℕ). 1 + z) k.on_is;
    })

-- signs

pub record IsOther (c : ℕ) : Type 0 where
  pub no_digit : is_ascii_digit c ≡ false
  pub no_start : is_name_start c ≡ false
  pub no_quote : is_quote c ≡ false
  pub no_dollar : eqb c 36 ≡ false
  pub no_slash : eqb c 47 ≡ false

pub other_is : (c : ℕ) → is_other c ≡ true → IsOther c
other_is c h =
    let a = or_false (is_ascii_digit c || is_name_start c || is_quote c || eqb c 36) (eqb c 47) (not_true _ h) in
    let b = or_false (is_ascii_digit c || is_name_start c || is_quote c) (eqb c 36) a.0 in
    let e = or_false (is_ascii_digit c || is_name_start c) (is_quote c) b.0 in
    let f = or_false (is_ascii_digit c) (is_name_start c) e.0 in
    record { no_digit = f.0; no_start = f.1; no_quote = e.1; no_dollar = b.1; no_slash = a.1 }

other_token : (d : Bool) (c : ℕ) (w : List ℕ) → IsOther c → token_of d (c ∷ w) ≡ word_in signs (c ∷ w)
other_token d c w o = token_sign d c w o.no_digit o.no_start o.no_quote o.no_dollar

chosen_stands : (d : Bool) (c : ℕ) (cs w rest : List ℕ) (u : Token) → IsOther c → c ∷ cs ≡ w ++ rest → word_in signs w ≡ Some u
    → ((x : ℕ) (more others : List ℕ) → rest ≡ x ∷ (more ++ others) → word_in signs (w ++ x ∷ more) ≡ None) → ComesFirst d (c ∷ cs) u rest
chosen_stands d c cs [] rest u o p k l = absurd cc
chosen_stands d c cs (y ∷ w) rest u o p k l =
    let same : c ≡ y = cc in
    let o' = subst IsOther same o in
    record {
      word = y ∷ w;
      parts = p;
      spells = other_token d y w o' ∙ k;
      longest = λ x more others r. other_token d y (w ++ x ∷ more) o' ∙ l x more others r;
      whole = plain_whole u rest (plain_in signs (y ∷ w) u refl k);
    }

pub sign_stands : (text : List ℕ) (u : Token) (n : ℕ) → first_is is_other text ≡ true → first_in signs text ≡ Some (u, n) → (d : Bool) → ComesFirst d text u (drop n text)
sign_stands [] u n h e d = absurd cc
sign_stands (c ∷ cs) u n h e d =
    let s = sign_found signs (c ∷ cs) u n signs_ordered signs_low e in
    subst (λ (z : List ℕ). ComesFirst d (c ∷ cs) u z) (sym (ap (drop n) s.parts ∙ drop_at s.word s.rest n s.bytes)) (chosen_stands d c cs s.word s.rest u (other_is c h) s.parts s.spells s.longest)

low_ascii : (c : ℕ) → is_low c ≡ true → c < 128
low_ascii c h = grind (arith, nat_tests)

pub sign_boundary : (text : List ℕ) (u : Token) (n : ℕ) → first_in signs text ≡ Some (u, n) → IsUtf8 text → IsCharBoundary text n
sign_boundary text u n e k =
    let s = sign_found signs text u n signs_ordered signs_low e in
    subst (λ (i : ℕ). IsCharBoundary text i) s.bytes (seam is_low low_ascii text s.word s.rest s.parts s.is_low k)

sign_not : (c : ℕ) (cs word others : List ℕ) → IsOther c → first_in signs (c ∷ cs) ≡ None → c ∷ cs ≡ word ++ others → token_of false word ≡ None
sign_not c cs [] others o e p = refl
sign_not c cs (y ∷ w) others o e p =
    let same : c ≡ y = cc in
    other_token false y w (subst IsOther same o) ∙ sign_none signs (c ∷ cs) (y ∷ w) others e p

pub sign_fails : (place : ℕ) (text : List ℕ) → first_is is_other text ≡ true → first_in signs text ≡ None → IsFaultFrom place text (BadExpression place)
sign_fails place [] h e = absurd cc
sign_fails place (c ∷ cs) h e =
    let o = other_is c h in (
      place,
      (
        refl,
        0,
        omega arith,
        inr (inl (
          refl,
          record {
            first = c;
            rest = cs;
            parts = refl;
            no_digit = o.no_digit;
            no_quote = o.no_quote;
            no_slash = eqb-false c 47 o.no_slash;
            none = λ word others p. sign_not c cs word others o e p;
          },
        )),
      ),
    )

pub slash_fails : (place : ℕ) (text : List ℕ) → get_or text 0 0 ≡ 47 → IsFaultFrom place text (NotInProfile Slash)
slash_fails place [] h = absurd cc
slash_fails place (c ∷ cs) h = (place, (refl, record { rest = cs; parts = ap (λ (z : ℕ). z ∷ cs) h }))

-- the same of a text as the code has it, by its first byte and what follows

body_closes : (q : ℕ) (body : List ℕ) (on : ℕ) → ClosesAt q (take (length (q ∷ body) - 1) (drop 1 (q ∷ body))) on → ClosesAt q body on
body_closes q body on k = subst (λ (z : List ℕ). ClosesAt q z on) (tail_is q body) k

pub quoted_boundary : (text : List ℕ) (on : ℕ) → first_is is_quote text ≡ true → ClosesAt (get_or text 0 0) (take (length text - 1) (drop 1 text)) on → IsUtf8 text → IsCharBoundary text (on + 2)
quoted_boundary [] on h k u = absurd cc
quoted_boundary (q ∷ body) on h k u = text_boundary q body on h (body_closes q body on k) u

pub quoted_means : (text : List ℕ) (on : ℕ) → first_is is_quote text ≡ true → ClosesAt (get_or text 0 0) (take (length text - 1) (drop 1 text)) on → IsSome (meaning (take (on + 2) text))
quoted_means [] on h k = absurd cc
quoted_means (q ∷ body) on h k = text_means q body on h (body_closes q body on k)

pub quoted_stands : (text : List ℕ) (on : ℕ) (m : List ℕ) → first_is is_quote text ≡ true → ClosesAt (get_or text 0 0) (take (length text - 1) (drop 1 text)) on → meaning (take (on + 2) text) ≡ Some m → (d : Bool) → ComesFirst d text (t.Text m) (drop (on + 2) text)
quoted_stands [] on m h k e d = absurd cc
quoted_stands (q ∷ body) on m h k e d = text_stands q body on m h (body_closes q body on k) e d

pub quoted_fails : (place : ℕ) (text : List ℕ) (on : ℕ) → first_is is_quote text ≡ true → FailsAt (get_or text 0 0) (take (length text - 1) (drop 1 text)) on → IsFaultFrom place text (BadExpression (place + 1 + on))
quoted_fails place [] on h k = absurd cc
quoted_fails place (q ∷ body) on h k = text_fails place q body on h (subst (λ (z : List ℕ). FailsAt q z on) (tail_is q body) k)

pub dollar_boundary : (text : List ℕ) → first_is (λ c. eqb c 36) text ≡ true → IsUtf8 text → IsCharBoundary text 1
dollar_boundary [] h u = absurd cc
dollar_boundary (c ∷ cs) h u = let e : c ≡ 36 = eqb-true c 36 h in IsCharBoundary-after_ascii (c ∷ cs) 0 u (omega arith) (omega arith)

pub dollar_fails : (place : ℕ) (text : List ℕ) → first_is (λ c. eqb c 36) text ≡ true → begins_name (drop 1 text) ≡ false → IsFaultFrom place text (BadExpression place)
dollar_fails place [] h b = absurd cc
dollar_fails place (c ∷ cs) h b = let e : c ≡ 36 = eqb-true c 36 h in subst (λ (z : ℕ). IsFaultFrom place (z ∷ cs) (BadExpression place)) (sym e) (capture_fails place cs b)

pub dollar_stands : (text : List ℕ) (n : ℕ) → first_is (λ c. eqb c 36) text ≡ true → IsRun is_name_byte (drop 1 text) n → begins_name (drop 1 text) ≡ true → (d : Bool) → ComesFirst d text (t.Capture (take n (drop 1 text))) (drop n (drop 1 text))
dollar_stands [] n h r b d = absurd cc
dollar_stands (c ∷ cs) n h r b d = let e : c ≡ 36 = eqb-true c 36 h in subst (λ (z : ℕ). ComesFirst d (z ∷ cs) (t.Capture (take n cs)) (drop n cs)) (sym e) (capture_stands cs n r b d)
