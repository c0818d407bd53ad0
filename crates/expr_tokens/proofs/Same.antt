-- One token, or one fault, stands at a place.
use Rattle.std.proofs.Common.{◌≡◌, ℕ, ◌+◌, ◌≤◌, suc, zero, Bool, true, false, cond, ◌&&◌, ◌||◌, List, [], ◌∷◌, ◌++◌, length, Option, Some, None, refl, sym, ap, subst, ◌∙◌, arith, inl, inr, ◌⊎◌, eqb, append_assoc, IsSome}
use Rattle.std.specs.Prelude.{nat_le, option_map, encode_utf8}
use Rattle.std.specs.List.{list_all}
use Rattle.std.specs.Char.{is_ascii_digit}
use Rattle.std.proofs.lemmas.Bool.{eqb-true, ne_eqb, lt-leb}
use Rattle.std.proofs.lemmas.Bool.Decides.{nat_tests}
use Rattle.std.proofs.lemmas.List.{append-nil, append_cancel_right}
use Rattle.expr_tokens.specs.declared.fault.ExprFault.{ExprFault}
use Rattle.expr_tokens.specs.declared.fault.ExprFault.TheVariants.{BadExpression, NotInProfile, NoMemory}
use Rattle.expr_tokens.specs.declared.fault.Excluded.TheVariants.{Slash, Number, Bracket}
use Rattle.expr_tokens.specs.declared.token.Token.{Token}
use Rattle.expr_tokens.specs.declared.token.Token.TheVariants as t
use Rattle.expr_tokens.specs.Words.{is_name_start, is_name_byte, is_numeral, numeral, greatest, first_is, begins_digit, begins_fraction, ends_number}
use Rattle.expr_tokens.specs.Quoted.{is_quote, letters, letter_in, coded, coded_at, then_rest, escape_at, meaning, before, meant, closed, unquoted, escaped, escaped_code}
use Rattle.expr_tokens.specs.Token.{number, name, named, token_of}
use Rattle.expr_tokens.specs.Spelling.{IsLongest, IsWhole, ComesFirst}
use Rattle.expr_tokens.specs.Faults.{IsContent, BeginsSlash, BeginsFraction, BeginsLarge, BeginsBadEscape, BeginsUnclosed, BeginsNoToken, IsMisspelled, IsFaultAt}
use Rattle.expr_tokens.specs.Working.Scanning.{IsInside}
use Rattle.expr_tokens.proofs.Runs.{and_true, or_false, not_true}
use Rattle.expr_tokens.proofs.Texts.{IsRead, read_none, read_plain, read_escape}
use Rattle.expr_tokens.proofs.Fronts.{token_number, token_text, token_name, past_name, broken, unquoted_end}

-- of two fronts of one text one goes on from the other
pub compare : (a b s r : List ℕ) → a ++ s ≡ b ++ r → ((x : List ℕ) × (b ≡ a ++ x) × (s ≡ x ++ r)) ⊎ ((x : List ℕ) × (a ≡ b ++ x) × (r ≡ x ++ s))
compare [] b s r e = inl (b, refl, e)
compare (c ∷ a) [] s r e = inr (c ∷ a, refl, sym e)
compare (c ∷ a) (d ∷ b) s r e =
    let h : c ≡ d = cc in
    let k : a ++ s ≡ b ++ r = cc in
    elim (compare a b s r k) [
      | inl p ↦ inl (p.0, ap (λ (z : ℕ). z ∷ b) (sym h) ∙ ap (λ (z : List ℕ). c ∷ z) p.1, p.2)
      | inr p ↦ inr (p.0, ap (λ (z : ℕ). z ∷ a) h ∙ ap (λ (z : List ℕ). d ∷ z) p.1, p.2)
    ]

-- tokens

longer_none : (d : Bool) (w v r s : List ℕ) (u : Token) (x : List ℕ) → IsLongest d w r → token_of d v ≡ Some u → v ≡ w ++ x → r ≡ x ++ s → (w ≡ v) × (r ≡ s)
longer_none d w v r s u [] l k e f = (sym (e ∙ append-nil w), f)
longer_none d w v r s u (c ∷ x) l k e f = let n = sym (l c x s f) ∙ ap (token_of d) (sym e) ∙ k in absurd cc

pub one_token : (d : Bool) (text : List ℕ) (u v : Token) (r s : List ℕ) → ComesFirst d text u r → ComesFirst d text v s → (u ≡ v) × (r ≡ s)
one_token d text u v r s f g = go (words (compare f.word g.word r s (sym f.parts ∙ g.parts)))
  where
    words : ((x : List ℕ) × (g.word ≡ f.word ++ x) × (r ≡ x ++ s)) ⊎ ((x : List ℕ) × (f.word ≡ g.word ++ x) × (s ≡ x ++ r)) → (f.word ≡ g.word) × (r ≡ s)
    words (inl p) = longer_none d f.word g.word r s v p.0 f.longest g.spells p.1 p.2
    words (inr p) = let q = longer_none d g.word f.word s r u p.0 g.longest f.spells p.1 p.2 in (sym q.0, sym q.1)

    go : (f.word ≡ g.word) × (r ≡ s) → (u ≡ v) × (r ≡ s)
    go same = let e : Some u ≡ Some v = sym f.spells ∙ ap (token_of d) same.0 ∙ g.spells in (cc, same.1)

-- runs

run_more : (p : ℕ → Bool) (w v r s x : List ℕ) → list_all p v ≡ true → first_is p r ≡ false → v ≡ w ++ x → r ≡ x ++ s → (w ≡ v) × (r ≡ s)
run_more p w v r s [] h k e f = (sym (e ∙ append-nil w), f)
run_more p w v r s (c ∷ x) h k e f = let n = sym h ∙ ap (list_all p) e ∙ broken p w c x (ap (first_is p) (sym f) ∙ k) in absurd cc

pub one_run : (p : ℕ → Bool) (w v r s : List ℕ) → w ++ r ≡ v ++ s → list_all p w ≡ true → list_all p v ≡ true → first_is p r ≡ false → first_is p s ≡ false → (w ≡ v) × (r ≡ s)
one_run p w v r s e h k m n = elim (compare w v r s e) [
  | inl q ↦ run_more p w v r s q.0 k m q.1 q.2
  | inr q ↦ let z = run_more p v w s r q.0 h n q.1 q.2 in (sym z.0, sym z.1)
]

-- quoted texts

pub quote_is : (q : ℕ) (P : ℕ → Type 0) → is_quote q ≡ true → P 39 → P 34 → P q
quote_is q P h a b = go (eqb q 39) refl h
  where
    go : (z : Bool) → eqb q 39 ≡ z → (z || eqb q 34) ≡ true → P q
    go true e k = subst P (sym (eqb-true q 39 e)) a
    go false e k = subst P (sym (eqb-true q 34 k)) b

pub quote_no_slash : (q : ℕ) → is_quote q ≡ true → eqb q 92 ≡ false
quote_no_slash q h = quote_is q (λ z. eqb z 92 ≡ false) h refl refl

pub before_some : (x : List ℕ) (o : Option (List ℕ)) (m : List ℕ) → before x o ≡ Some m → (n : List ℕ) × (o ≡ Some n)
before_some x None m e = absurd cc
before_some x (Some n) m e = (n, refl)

meant_some : (o : Option ℕ) (p : Option (List ℕ)) (m : List ℕ) → meant o p ≡ Some m → (c : ℕ) × (n : List ℕ) × (o ≡ Some c) × (p ≡ Some n)
meant_some None p m e = absurd cc
meant_some (Some c) p m e = let b = before_some (encode_utf8 c) p m e in (c, b.0, refl, b.1)

-- an escape and what follows it
pub record Escapes (q : ℕ) (cs : List ℕ) : Type 0 where
  pub char : ℕ
  pub after : List ℕ
  pub says : List ℕ
  pub escape : escape_at cs ≡ Some (char, after)
  pub more : unquoted q after ≡ Some says
  pub shorter : length after ≤ length cs

pub escaped_some : (q : ℕ) (cs m : List ℕ) → escaped q cs ≡ Some m → Escapes q cs
escaped_some q [] m e = absurd cc
escaped_some q (x ∷ cs) m e = go (eqb x 117) refl e
  where
    codes : (r : List ℕ) → escaped_code q r ≡ Some m → eqb x 117 ≡ true → Escapes q (x ∷ r)
    codes [] k h = absurd cc
    codes (a ∷ []) k h = absurd cc
    codes (a ∷ b ∷ []) k h = absurd cc
    codes (a ∷ b ∷ c ∷ []) k h = absurd cc
    codes (a ∷ b ∷ c ∷ d ∷ r) k h =
        let s = meant_some (coded a b c d) (unquoted q r) m k in
        record {
          char = s.0;
          after = r;
          says = s.1;
          escape = ap (λ (z : Bool). cond {A = Option (ℕ × List ℕ)} z (then_rest (coded a b c d) r) (then_rest (letter_in letters x) (a ∷ b ∷ c ∷ d ∷ r))) h ∙ ap (λ (o : Option ℕ). then_rest o r) s.2;
          more = s.3;
          shorter = omega arith;
        }

    go : (z : Bool) → eqb x 117 ≡ z → cond z (escaped_code q cs) (meant (letter_in letters x) (unquoted q cs)) ≡ Some m → Escapes q (x ∷ cs)
    go true h k = codes cs k h
    go false h k =
        let s = meant_some (letter_in letters x) (unquoted q cs) m k in
        record {
          char = s.0;
          after = cs;
          says = s.1;
          escape = ap (λ (z : Bool). cond {A = Option (ℕ × List ℕ)} z (coded_at cs) (then_rest (letter_in letters x) cs)) h ∙ ap (λ (o : Option ℕ). then_rest o cs) s.2;
          more = s.3;
          shorter = omega arith;
        }

-- what means something is content and its quote
pub closed_from : (n : ℕ) (q : ℕ) (text w m : List ℕ) → length w ≤ n → IsRead q text w → unquoted q w ≡ Some m → IsRead q text (q ∷ [])
closed_from n q text [] m l r e = absurd cc
closed_from zero q text (c ∷ cs) m l r e = absurd (omega arith)
closed_from (suc n) q text (c ∷ cs) m l r e = go (eqb c q) (eqb c 92) refl refl e (λ w m' l' r' e'. closed_from n q text w m' l' r' e')
  where
    ends : (es : List ℕ) → c ≡ q → closed es ≡ Some m → IsRead q text (c ∷ es) → IsRead q text (q ∷ [])
    ends [] h k r' = subst (λ (z : ℕ). IsRead q text (z ∷ [])) h r'
    ends (x ∷ es) h k r' = absurd cc

    go : (a b : Bool) → eqb c q ≡ a → eqb c 92 ≡ b → cond a (closed cs) (cond b (escaped q cs) (before (c ∷ []) (unquoted q cs))) ≡ Some m
        → ((w m' : List ℕ) → length w ≤ n → IsRead q text w → unquoted q w ≡ Some m' → IsRead q text (q ∷ [])) → IsRead q text (q ∷ [])
    go true b h k e' next = ends cs (eqb-true c q h) e' r
    go false true h k e' next =
        let s = escaped_some q cs m e' in
        next s.after s.says (let short = s.shorter in omega arith) (read_escape q text c cs s.char s.after r h k s.escape) s.more
    go false false h k e' next =
        let s = before_some (c ∷ []) (unquoted q cs) m e' in
        next cs s.0 (omega arith) (read_plain q text c cs r h k) s.1

pub meaning_quote : (q : ℕ) (cs m : List ℕ) → meaning (q ∷ cs) ≡ Some m → (is_quote q ≡ true) × (unquoted q cs ≡ Some m)
meaning_quote q cs m e = go (is_quote q) refl e
  where
    go : (b : Bool) → is_quote q ≡ b → cond b (unquoted q cs) None ≡ Some m → (is_quote q ≡ true) × (unquoted q cs ≡ Some m)
    go true h k = (h, k)
    go false h k = absurd cc

pub content_inside : (q : ℕ) (content : List ℕ) → IsContent q content → (is_quote q ≡ true) × IsInside q content
content_inside q content h = go (meaning (q ∷ (content ++ q ∷ []))) refl h
  where
    go : (o : Option (List ℕ)) → meaning (q ∷ (content ++ q ∷ [])) ≡ o → IsSome o → (is_quote q ≡ true) × IsInside q content
    go None e k = absurd cc
    go (Some m) e k =
        let p = meaning_quote q (content ++ q ∷ []) m e in
        let w : List ℕ = content ++ q ∷ [] in
        let r = closed_from (length (content ++ q ∷ [])) q (content ++ q ∷ []) (content ++ q ∷ []) m (omega arith) (read_none q (content ++ q ∷ [])) p.1 in
        (p.0, subst (IsInside q) (append_cancel_right r.content content (q ∷ []) (sym r.parts)) r.inside)

-- where content stops: at its quote, at the end, or at a bad escape
abbrev pub IsStop : ℕ → List ℕ → Type 0
IsStop q tail = ((r : List ℕ) × (tail ≡ q ∷ r)) ⊎ (tail ≡ []) ⊎ ((more : List ℕ) × (tail ≡ 92 ∷ more) × (escape_at more ≡ None))

meant_none : (o : Option ℕ) → meant o None ≡ None
meant_none None = refl
meant_none (Some c) = refl

rest_none : (o : Option ℕ) (r : List ℕ) → then_rest o r ≡ None → o ≡ None
rest_none None r e = refl
rest_none (Some c) r e = absurd cc

bad_stays : (q : ℕ) (x tail : List ℕ) → is_quote q ≡ true → escape_at (x ++ tail) ≡ None → escaped q (x ++ q ∷ []) ≡ None
bad_stays q [] tail h e = quote_is q (λ z. escaped z (z ∷ []) ≡ None) h refl refl
bad_stays q (y ∷ x) tail h e = go (eqb y 117) refl e
  where
    codes : (z : List ℕ) → coded_at (z ++ tail) ≡ None → escaped_code q (z ++ q ∷ []) ≡ None
    codes [] k = refl
    codes (a ∷ []) k = refl
    codes (a ∷ b ∷ []) k = refl
    codes (a ∷ b ∷ c ∷ []) k = meant_none (coded a b c q)
    codes (a ∷ b ∷ c ∷ d ∷ z) k = ap (λ (o : Option ℕ). meant o (unquoted q (z ++ q ∷ []))) (rest_none (coded a b c d) (z ++ tail) k)

    go : (z : Bool) → eqb y 117 ≡ z → cond {A = Option (ℕ × List ℕ)} z (coded_at (x ++ tail)) (then_rest (letter_in letters y) (x ++ tail)) ≡ None → cond z (escaped_code q (x ++ q ∷ [])) (meant (letter_in letters y) (unquoted q (x ++ q ∷ []))) ≡ None
    go true h' k = codes x k
    go false h' k = ap (λ (o : Option ℕ). meant o (unquoted q (x ++ q ∷ []))) (rest_none (letter_in letters y) (x ++ tail) k)

closed_more : (x : List ℕ) (q : ℕ) → closed (x ++ q ∷ []) ≡ None
closed_more [] q = refl
closed_more (c ∷ x) q = refl

stops_there : (q c : ℕ) (x tail rest : List ℕ) → is_quote q ≡ true → IsStop q tail → tail ≡ c ∷ (x ++ rest) → unquoted q (c ∷ (x ++ q ∷ [])) ≡ None
stops_there q c x tail rest h (inl s) e =
    let k : c ≡ q = cc in
    ap (λ (z : ℕ). unquoted q (z ∷ (x ++ q ∷ []))) k ∙ unquoted_end q (x ++ q ∷ []) ∙ closed_more x q
stops_there q c x tail rest h (inr (inl s)) e = absurd cc
stops_there q c x tail rest h (inr (inr s)) e =
    let k : c ≡ 92 = cc in
    let f : s.0 ≡ x ++ rest = cc in
    ap (λ (z : ℕ). unquoted q (z ∷ (x ++ q ∷ []))) k ∙ ap (λ b. cond b (closed (x ++ q ∷ [])) (escaped q (x ++ q ∷ []))) (ne_eqb 92 q (λ z. let n = sym (quote_no_slash q h) ∙ ap (λ (y : ℕ). eqb y 92) (sym z) in cc))
    ∙ bad_stays q x rest h (ap escape_at (sym f) ∙ s.2)

inside_more : (q : ℕ) (a b x s r : List ℕ) → is_quote q ≡ true → IsInside q a → IsInside q b → IsStop q s → b ≡ a ++ x → s ≡ x ++ r → (a ≡ b) × (s ≡ r)
inside_more q a b [] s r h i j k e f = (sym (e ∙ append-nil a), f)
inside_more q a b (c ∷ x) s r h i j k e f =
    let one = j.goes_on (q ∷ []) ∙ ap (before j.says) (unquoted_end q []) in
    let two = ap (λ (z : List ℕ). unquoted q (z ++ q ∷ [])) e ∙ ap (unquoted q) (append_assoc a (c ∷ x) (q ∷ [])) ∙ i.goes_on (c ∷ (x ++ q ∷ [])) ∙ ap (before i.says) (stops_there q c x s r h k f) in
    let n = sym two ∙ one in absurd cc

pub one_stop : (q : ℕ) (a b s r : List ℕ) → is_quote q ≡ true → a ++ s ≡ b ++ r → IsInside q a → IsInside q b → IsStop q s → IsStop q r → (a ≡ b) × (s ≡ r)
one_stop q a b s r h e i j k l = elim (compare a b s r e) [
  | inl p ↦ inside_more q a b p.0 s r h i j k p.1 p.2
  | inr p ↦ let z = inside_more q b a p.0 r s h j i l p.1 p.2 in (sym z.0, sym z.1)
]

-- a front that is a number

ends_parts : (rest : List ℕ) → ends_number rest ≡ true → (begins_digit rest ≡ false) × (begins_fraction rest ≡ false)
ends_parts rest h = or_false (begins_digit rest) (begins_fraction rest) (not_true (begins_digit rest || begins_fraction rest) h)

fraction_byte : (c : ℕ) (b : Bool) → (eqb c 101 || eqb c 69 || (eqb c 46 && b)) ≡ true → is_ascii_digit c ≡ false
fraction_byte c true h = grind (arith, nat_tests)
fraction_byte c false h = grind (arith, nat_tests)

fraction_no_digit : (rest : List ℕ) → begins_fraction rest ≡ true → begins_digit rest ≡ false
fraction_no_digit [] h = refl
fraction_no_digit (c ∷ cs) h = fraction_byte c (begins_digit cs) h

numeral_all : (w : List ℕ) → is_numeral w ≡ true → list_all is_ascii_digit w ≡ true
numeral_all [] h = refl
numeral_all (c ∷ w) h = h

numeral_first : (w rest : List ℕ) → is_numeral w ≡ true → begins_digit (w ++ rest) ≡ true
numeral_first [] rest h = absurd cc
numeral_first (c ∷ w) rest h = (and_true (is_ascii_digit c) (list_all is_ascii_digit w) h).0

record NumberFront (text rest : List ℕ) : Type 0 where
  word : List ℕ
  parts : text ≡ word ++ rest
  digits : list_all is_ascii_digit word ≡ true
  small : nat_le (numeral word) greatest ≡ true
  ends : ends_number rest ≡ true

number_some : (w : List ℕ) (u : Token) → number w ≡ Some u → (list_all is_ascii_digit w ≡ true) × (nat_le (numeral w) greatest ≡ true) × (t.Number (numeral w) ≡ u)
number_some w u e = go (list_all is_ascii_digit w) (nat_le (numeral w) greatest) refl refl e
  where
    go : (a b : Bool) → list_all is_ascii_digit w ≡ a → nat_le (numeral w) greatest ≡ b → cond (a && b) (Some (t.Number (numeral w))) None ≡ Some u → (list_all is_ascii_digit w ≡ true) × (nat_le (numeral w) greatest ≡ true) × (t.Number (numeral w) ≡ u)
    go true true k l h = (k, l, cc)
    go true false k l h = absurd cc
    go false b k l h = absurd cc

number_front : (d : Bool) (text rest : List ℕ) (u : Token) → begins_digit text ≡ true → ComesFirst d text u rest → NumberFront text rest
number_front d text rest u h s = go s.word s.parts s.spells
  where
    go : (w : List ℕ) → text ≡ w ++ rest → token_of d w ≡ Some u → NumberFront text rest
    go [] p e = absurd cc
    go (c ∷ w) p e =
        let n = number_some (c ∷ w) u (sym (token_number d c w (sym (ap begins_digit p) ∙ h)) ∙ e) in
        record { word = c ∷ w; parts = p; digits = n.0; small = n.1; ends = subst (λ (v : Token). IsWhole v rest) (sym n.2) s.whole }

-- a front that is a text, or a fault in one

record TextFront (text rest : List ℕ) : Type 0 where
  quote : ℕ
  content : List ℕ
  is_quote : is_quote quote ≡ true
  parts : text ≡ quote ∷ (content ++ quote ∷ rest)
  inside : IsInside quote content

map_some : (o : Option (List ℕ)) (u : Token) → option_map t.Text o ≡ Some u → (m : List ℕ) × (o ≡ Some m)
map_some None u e = absurd cc
map_some (Some m) u e = (m, refl)

text_front : (d : Bool) (text rest : List ℕ) (u : Token) → first_is is_quote text ≡ true → ComesFirst d text u rest → TextFront text rest
text_front d text rest u h s = go s.word s.parts s.spells
  where
    go : (w : List ℕ) → text ≡ w ++ rest → token_of d w ≡ Some u → TextFront text rest
    go [] p e = absurd cc
    go (q ∷ w) p e =
        let quoted : is_quote q ≡ true = sym (ap (first_is is_quote) p) ∙ h in
        let m = map_some (meaning (q ∷ w)) u (sym (token_text d q w quoted) ∙ e) in
        let k = meaning_quote q w m.0 m.1 in
        let r = closed_from (length w) q w w m.0 (omega arith) (read_none q w) k.1 in
        record {
          quote = q;
          content = r.content;
          is_quote = quoted;
          parts = p ∙ ap (λ (z : List ℕ). q ∷ (z ++ rest)) r.parts ∙ ap (λ (z : List ℕ). q ∷ z) (append_assoc r.content (q ∷ []) rest);
          inside = r.inside;
        }

pub record QuotedFault (text : List ℕ) (on : ℕ) : Type 0 where
  pub quote : ℕ
  pub content : List ℕ
  pub tail : List ℕ
  pub quoted : is_quote quote ≡ true
  pub parts : text ≡ quote ∷ (content ++ tail)
  pub inside : IsInside quote content
  pub stop : (tail ≡ []) ⊎ ((more : List ℕ) × (tail ≡ 92 ∷ more) × (escape_at more ≡ None))
  pub on_is : on ≡ 1 + length content

pub bad_escape : (text : List ℕ) (on : ℕ) → BeginsBadEscape text on → QuotedFault text on
bad_escape text on b =
    let i = content_inside b.quote b.content b.is_content in
    record { quote = b.quote; content = b.content; tail = 92 ∷ b.rest; quoted = i.0; parts = b.parts; inside = i.1; stop = inr (b.rest, refl, b.bad); on_is = b.on_is }

pub unclosed : (text : List ℕ) (on : ℕ) → BeginsUnclosed text on → QuotedFault text on
unclosed text on b =
    let i = content_inside b.quote b.content b.is_content in
    record { quote = b.quote; content = b.content; tail = []; quoted = i.0; parts = b.parts ∙ ap (λ (z : List ℕ). b.quote ∷ z) (sym (append-nil b.content)); inside = i.1; stop = inl refl; on_is = b.on_is }

quote_stops : (q : ℕ) (rest tail : List ℕ) → is_quote q ≡ true → q ∷ rest ≡ tail → (tail ≡ []) ⊎ ((more : List ℕ) × (tail ≡ 92 ∷ more) × (escape_at more ≡ None)) → ⊥
quote_stops q rest tail h e (inl s) = let n : q ∷ rest ≡ [] = e ∙ s in cc
quote_stops q rest tail h e (inr s) =
    let n : q ∷ rest ≡ 92 ∷ s.0 = e ∙ s.1 in
    let k : q ≡ 92 = cc in
    let m = sym (quote_no_slash q h) ∙ ap (λ (z : ℕ). eqb z 92) k in
    cc

text_no_fault : (text rest : List ℕ) (on : ℕ) → TextFront text rest → QuotedFault text on → ⊥
text_no_fault text rest on f g =
    let e = sym f.parts ∙ g.parts in
    let q : f.quote ≡ g.quote = cc in
    let body : f.content ++ f.quote ∷ rest ≡ g.content ++ g.tail = cc in
    let j : IsInside f.quote g.content = subst (λ (z : ℕ). IsInside z g.content) (sym q) g.inside in
    let same = one_stop f.quote f.content g.content (f.quote ∷ rest) g.tail f.is_quote body f.inside j (inl (rest, refl)) (inr g.stop) in
    quote_stops f.quote rest g.tail f.is_quote same.1 g.stop

-- no token and fault stand at one place

name_either : (w : List ℕ) → name false w ≡ None → name true w ≡ None
name_either w h = go (list_all is_name_byte w) h
  where
    go : (b : Bool) → cond b (Some (named false w)) None ≡ None → cond b (Some (named true w)) None ≡ None
    go true e = absurd cc
    go false e = refl

token_either : (d : Bool) (w : List ℕ) → token_of false w ≡ None → token_of d w ≡ None
token_either false w h = h
token_either true [] h = refl
token_either true (c ∷ w) h = go (is_ascii_digit c) (is_name_start c) refl refl
  where
    go : (a b : Bool) → is_ascii_digit c ≡ a → is_name_start c ≡ b → token_of true (c ∷ w) ≡ None
    go true b e f = token_number true c w e ∙ sym (token_number false c w e) ∙ h
    go false true e f = token_name true c w f ∙ name_either (c ∷ w) (sym (token_name false c w f) ∙ h)
    go false false e f = past_name true c w e f ∙ sym (past_name false c w e f) ∙ h

no_slash : (d : Bool) (text rest : List ℕ) (u : Token) → BeginsSlash text → ComesFirst d text u rest → ⊥
no_slash d text rest u b s = go s.word s.parts s.spells
  where
    go : (w : List ℕ) → text ≡ w ++ rest → token_of d w ≡ Some u → ⊥
    go [] p e = cc
    go (c ∷ w) p e =
        let k : c ∷ (w ++ rest) ≡ 47 ∷ b.rest = sym p ∙ b.parts in
        let h : c ≡ 47 = cc in
        let n = ap (λ (z : ℕ). token_of d (z ∷ w)) (sym h) ∙ e in
        let m : None ≡ Some u = n in cc

no_fraction : (d : Bool) (text rest : List ℕ) (u : Token) → BeginsFraction text → ComesFirst d text u rest → ⊥
no_fraction d text rest u b s =
    let f = number_front d text rest u (ap begins_digit b.parts ∙ numeral_first b.digits b.rest b.are_digits) s in
    let same = one_run is_ascii_digit f.word b.digits rest b.rest (sym f.parts ∙ b.parts) f.digits (numeral_all b.digits b.are_digits) (ends_parts rest f.ends).0 (fraction_no_digit b.rest b.fraction) in
    let n = sym (ends_parts rest f.ends).1 ∙ ap begins_fraction same.1 ∙ b.fraction in
    cc

no_large : (d : Bool) (text rest : List ℕ) (u : Token) → BeginsLarge text → ComesFirst d text u rest → ⊥
no_large d text rest u b s =
    let f = number_front d text rest u (ap begins_digit b.parts ∙ numeral_first b.digits b.rest b.are_digits) s in
    let same = one_run is_ascii_digit f.word b.digits rest b.rest (sym f.parts ∙ b.parts) f.digits (numeral_all b.digits b.are_digits) (ends_parts rest f.ends).0 (ends_parts b.rest b.whole).0 in
    let n = sym f.small ∙ ap (λ (z : List ℕ). nat_le (numeral z) greatest) same.0 ∙ lt-leb (numeral b.digits) greatest b.large in
    cc

no_quoted : (d : Bool) (text rest : List ℕ) (u : Token) (on : ℕ) → QuotedFault text on → ComesFirst d text u rest → ⊥
no_quoted d text rest u on g s = text_no_fault text rest on (text_front d text rest u (ap (first_is is_quote) g.parts ∙ g.quoted) s) g

no_misspelled : (d : Bool) (text rest : List ℕ) (u : Token) (on : ℕ) → IsMisspelled text on → ComesFirst d text u rest → ⊥
no_misspelled d text rest u on (inl b) s = no_large d text rest u b.1 s
no_misspelled d text rest u on (inr (inl b)) s = let n = sym s.spells ∙ token_either d s.word (b.1.none s.word rest s.parts) in cc
no_misspelled d text rest u on (inr (inr (inl b))) s = no_quoted d text rest u on (bad_escape text on b) s
no_misspelled d text rest u on (inr (inr (inr b))) s = no_quoted d text rest u on (unclosed text on b) s

pub token_no_fault : (d : Bool) (text rest : List ℕ) (u : Token) (byte : ℕ) (f : ExprFault) (p : ℕ) → ComesFirst d text u rest → IsFaultAt byte text f p → ⊥
token_no_fault d text rest u byte (BadExpression n) p s b = no_misspelled d text rest u b.1 b.3 s
token_no_fault d text rest u byte (NotInProfile Slash) p s b = no_slash d text rest u b.1 s
token_no_fault d text rest u byte (NotInProfile Number) p s b = no_fraction d text rest u b.1 s
token_no_fault d text rest u byte (NotInProfile Bracket) p s b = b
token_no_fault d text rest u byte NoMemory p s b = b

-- two faults at one place are one

-- by its first byte
data Class : Type 0 where
  slash : Class
  digit : Class
  quote : Class
  none : Class

abbrev class_of : List ℕ → Class
class_of [] = none
class_of (c ∷ cs) = cond (eqb c 47) slash (cond (is_ascii_digit c) digit (cond (is_quote c) quote none))

abbrev Shape : Class → ℕ → List ℕ → ExprFault → ℕ → Type 0
Shape slash byte text f p = (f ≡ NotInProfile Slash) × (p ≡ byte)
Shape digit byte text f p = ((f ≡ NotInProfile Number) × (p ≡ byte) × BeginsFraction text) ⊎ ((f ≡ BadExpression p) × (p ≡ byte) × BeginsLarge text)
Shape quote byte text f p = (on : ℕ) × (f ≡ BadExpression p) × (p ≡ byte + on) × QuotedFault text on
Shape none byte text f p = (f ≡ BadExpression p) × (p ≡ byte)

digit_class : (text : List ℕ) → begins_digit text ≡ true → class_of text ≡ digit
digit_class [] h = absurd cc
digit_class (c ∷ cs) h =
    let n : eqb c 47 ≡ false = grind (arith, nat_tests) in
    ap (λ b. cond b slash (cond (is_ascii_digit c) digit (cond (is_quote c) quote none))) n ∙ ap (λ b. cond b digit (cond (is_quote c) quote none)) h

quote_class : (q : ℕ) (cs : List ℕ) → is_quote q ≡ true → class_of (q ∷ cs) ≡ quote
quote_class q cs h = quote_is q (λ z. class_of (z ∷ cs) ≡ quote) h refl refl

none_class : (text : List ℕ) → (b : BeginsNoToken text) → class_of text ≡ none
none_class text b =
    ap class_of b.parts ∙ ap (λ z. cond z slash (cond (is_ascii_digit b.first) digit (cond (is_quote b.first) quote none))) (ne_eqb b.first 47 b.no_slash)
    ∙ ap (λ z. cond z digit (cond (is_quote b.first) quote none)) b.no_digit ∙ ap (λ z. cond z quote none) b.no_quote

shaped : (k : Class) (byte : ℕ) (text : List ℕ) (f : ExprFault) (p : ℕ) → class_of text ≡ k → Shape k byte text f p → Shape (class_of text) byte text f p
shaped k byte text f p e s = subst (λ (z : Class). Shape z byte text f p) (sym e) s

quoted_shape : (byte : ℕ) (text : List ℕ) (n p on : ℕ) → n ≡ p → p ≡ byte + on → QuotedFault text on → Shape (class_of text) byte text (BadExpression n) p
quoted_shape byte text n p on e o g = shaped quote byte text (BadExpression n) p (ap class_of g.parts ∙ quote_class g.quote (g.content ++ g.tail) g.quoted) (on, ap BadExpression e, o, g)

misspelled_shape : (byte : ℕ) (text : List ℕ) (n p on : ℕ) → n ≡ p → p ≡ byte + on → IsMisspelled text on → Shape (class_of text) byte text (BadExpression n) p
misspelled_shape byte text n p on e o (inl b) = shaped digit byte text (BadExpression n) p (digit_class text (ap begins_digit b.1.parts ∙ numeral_first b.1.digits b.1.rest b.1.are_digits)) (inr (ap BadExpression e, (let z = b.0 in omega arith), b.1))
misspelled_shape byte text n p on e o (inr (inl b)) = shaped none byte text (BadExpression n) p (none_class text b.1) (ap BadExpression e, (let z = b.0 in omega arith))
misspelled_shape byte text n p on e o (inr (inr (inl b))) = quoted_shape byte text n p on e o (bad_escape text on b)
misspelled_shape byte text n p on e o (inr (inr (inr b))) = quoted_shape byte text n p on e o (unclosed text on b)

fault_shape : (byte : ℕ) (text : List ℕ) (f : ExprFault) (p : ℕ) → IsFaultAt byte text f p → Shape (class_of text) byte text f p
fault_shape byte text (BadExpression n) p b = misspelled_shape byte text n p b.1 b.0 b.2 b.3
fault_shape byte text (NotInProfile Slash) p b = shaped slash byte text (NotInProfile Slash) p (ap class_of b.1.parts) (refl, b.0)
fault_shape byte text (NotInProfile Number) p b = shaped digit byte text (NotInProfile Number) p (digit_class text (ap begins_digit b.1.parts ∙ numeral_first b.1.digits b.1.rest b.1.are_digits)) (inl (refl, b.0, b.1))
fault_shape byte text (NotInProfile Bracket) p b = absurd b
fault_shape byte text NoMemory p b = absurd b

fraction_or_large : (text : List ℕ) → BeginsFraction text → BeginsLarge text → ⊥
fraction_or_large text a b =
    let same = one_run is_ascii_digit a.digits b.digits a.rest b.rest (sym a.parts ∙ b.parts) (numeral_all a.digits a.are_digits) (numeral_all b.digits b.are_digits) (fraction_no_digit a.rest a.fraction) (ends_parts b.rest b.whole).0 in
    let n = sym a.fraction ∙ ap begins_fraction same.1 ∙ (ends_parts b.rest b.whole).1 in
    cc

one_quoted : (text : List ℕ) (on at : ℕ) → QuotedFault text on → QuotedFault text at → on ≡ at
one_quoted text on at f g =
    let e = sym f.parts ∙ g.parts in
    let q : f.quote ≡ g.quote = cc in
    let body : f.content ++ f.tail ≡ g.content ++ g.tail = cc in
    let j : IsInside f.quote g.content = subst (λ (z : ℕ). IsInside z g.content) (sym q) g.inside in
    let same = one_stop f.quote f.content g.content f.tail g.tail f.quoted body f.inside j (inr f.stop) (inr g.stop) in
    f.on_is ∙ ap (λ (z : List ℕ). 1 + length z) same.0 ∙ sym g.on_is

one_shape : (k : Class) (byte : ℕ) (text : List ℕ) (f g : ExprFault) (p q : ℕ) → Shape k byte text f p → Shape k byte text g q → (f ≡ g) × (p ≡ q)
one_shape slash byte text f g p q a b = (a.0 ∙ sym b.0, a.1 ∙ sym b.1)
one_shape none byte text f g p q a b = let e = a.1 ∙ sym b.1 in (a.0 ∙ ap BadExpression e ∙ sym b.0, e)
one_shape quote byte text f g p q a b =
    let e : p ≡ q = a.2 ∙ ap (λ (z : ℕ). byte + z) (one_quoted text a.0 b.0 a.3 b.3) ∙ sym b.2 in
    (a.1 ∙ ap BadExpression e ∙ sym b.1, e)
one_shape digit byte text f g p q (inl a) (inl b) = (a.0 ∙ sym b.0, a.1 ∙ sym b.1)
one_shape digit byte text f g p q (inr a) (inr b) = let e = a.1 ∙ sym b.1 in (a.0 ∙ ap BadExpression e ∙ sym b.0, e)
one_shape digit byte text f g p q (inl a) (inr b) = absurd (fraction_or_large text a.2 b.2)
one_shape digit byte text f g p q (inr a) (inl b) = absurd (fraction_or_large text b.2 a.2)

pub one_fault : (byte : ℕ) (text : List ℕ) (f g : ExprFault) (p q : ℕ) → IsFaultAt byte text f p → IsFaultAt byte text g q → (f ≡ g) × (p ≡ q)
one_fault byte text f g p q a b = one_shape (class_of text) byte text f g p q (fault_shape byte text f p a) (fault_shape byte text g q b)
