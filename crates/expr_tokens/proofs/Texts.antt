-- What quoted texts mean.
use Rattle.std.proofs.Common.{◌≡◌, ℕ, ◌+◌, ◌<◌, ◌≤◌, Bool, true, false, cond, List, [], ◌∷◌, ◌++◌, length, Option, Some, None, refl, sym, ap, ◌∙◌, arith, append_assoc, length-append, IsSome, eqb, take, drop, get_or, ◌-◌, inl, inr}
use Rattle.std.specs.Prelude.{encode_utf8}
use Rattle.std.proofs.lemmas.Bool.{eqb-true, ne_eqb, eq-eqb}
use Rattle.std.proofs.lemmas.List.{take_all}
use Rattle.expr_tokens.specs.Quoted.{meaning, said, letters, letter_in, coded, coded_at, then_rest, escape_at, before, meant, closed, unquoted, escaped, escaped_code}
use Rattle.expr_tokens.specs.Working.Scanning.{IsInside, ClosesAt, FailsAt}

pub meaning_said : (w : List ℕ) → IsSome (meaning w) → meaning w ≡ Some (said w)
meaning_said w h = go (meaning w) refl h
  where
    go : (o : Option (List ℕ)) → meaning w ≡ o → IsSome o → o ≡ Some (said w)
    go None e k = absurd cc
    go (Some m) e k = rw e refl

pub before_nil : (o : Option (List ℕ)) → before [] o ≡ o
before_nil None = refl
before_nil (Some m) = refl

pub before_both : (x y : List ℕ) (o : Option (List ℕ)) → before x (before y o) ≡ before (x ++ y) o
before_both x y None = refl
before_both x y (Some m) = ap (λ (z : List ℕ). Some z) (sym (append_assoc x y m))

-- an escape and what it does
pub record IsEscape (behind : List ℕ) (ch : ℕ) (after : List ℕ) : Type 0 where
  pub written : List ℕ
  pub parts : behind ≡ written ++ after
  pub goes_on : (quote : ℕ) (rest : List ℕ) → escaped quote (written ++ rest) ≡ before (encode_utf8 ch) (unquoted quote rest)

code_is : (e a b c d : ℕ) (rest : List ℕ) (ch : ℕ) (after : List ℕ) → eqb e 117 ≡ true → then_rest (coded a b c d) rest ≡ Some (ch, after) → IsEscape (e ∷ a ∷ b ∷ c ∷ d ∷ rest) ch after
code_is e a b c d rest ch after u h = go (coded a b c d) refl h
  where
    go : (o : Option ℕ) → coded a b c d ≡ o → then_rest o rest ≡ Some (ch, after) → IsEscape (e ∷ a ∷ b ∷ c ∷ d ∷ rest) ch after
    go None k h' = absurd cc
    go (Some x) k h' =
        let p : ℕ × List ℕ = (x, rest) in
        let q : ℕ × List ℕ = (ch, after) in
        let same : p ≡ q = cc in
        let one : x ≡ ch = ap (λ (z : ℕ × List ℕ). z.0) same in
        let two : rest ≡ after = ap (λ (z : ℕ × List ℕ). z.1) same in
        record {
          written = e ∷ a ∷ b ∷ c ∷ d ∷ [];
          parts = ap (λ (z : List ℕ). e ∷ a ∷ b ∷ c ∷ d ∷ z) two;
          goes_on = λ quote ws. ap (λ t. cond t (escaped_code quote (a ∷ b ∷ c ∷ d ∷ ws)) (meant (letter_in letters e) (unquoted quote (a ∷ b ∷ c ∷ d ∷ ws)))) u
              ∙ ap (λ (o : Option ℕ). meant o (unquoted quote ws)) (k ∙ ap (λ (z : ℕ). Some z) one);
        }

pub escape_is : (behind : List ℕ) (ch : ℕ) (after : List ℕ) → escape_at behind ≡ Some (ch, after) → IsEscape behind ch after
escape_is [] ch after h = absurd cc
escape_is (e ∷ rest) ch after h = go (eqb e 117) refl h
  where
    codes : (r : List ℕ) → eqb e 117 ≡ true → coded_at r ≡ Some (ch, after) → IsEscape (e ∷ r) ch after
    codes [] u k = absurd cc
    codes (a ∷ []) u k = absurd cc
    codes (a ∷ b ∷ []) u k = absurd cc
    codes (a ∷ b ∷ c ∷ []) u k = absurd cc
    codes (a ∷ b ∷ c ∷ d ∷ r) u k = code_is e a b c d r ch after u k

    letter : (o : Option ℕ) → letter_in letters e ≡ o → eqb e 117 ≡ false → then_rest o rest ≡ Some (ch, after) → IsEscape (e ∷ rest) ch after
    letter None k u h' = absurd cc
    letter (Some x) k u h' =
        let p : ℕ × List ℕ = (x, rest) in
        let q : ℕ × List ℕ = (ch, after) in
        let same : p ≡ q = cc in
        let one : x ≡ ch = ap (λ (z : ℕ × List ℕ). z.0) same in
        let two : rest ≡ after = ap (λ (z : ℕ × List ℕ). z.1) same in
        record {
          written = e ∷ [];
          parts = ap (λ (z : List ℕ). e ∷ z) two;
          goes_on = λ quote ws. ap (λ t. cond t (escaped_code quote ws) (meant (letter_in letters e) (unquoted quote ws))) u
              ∙ ap (λ (o : Option ℕ). meant o (unquoted quote ws)) (k ∙ ap (λ (z : ℕ). Some z) one);
        }

    go : (t : Bool) → eqb e 117 ≡ t → cond {A = Option (ℕ × List ℕ)} t (coded_at rest) (then_rest (letter_in letters e) rest) ≡ Some (ch, after) → IsEscape (e ∷ rest) ch after
    go true u k = codes rest u k
    go false u k = letter (letter_in letters e) refl u k

-- content was read, and this is left
pub record IsRead (quote : ℕ) (text rest : List ℕ) : Type 0 where
  pub content : List ℕ
  pub parts : text ≡ content ++ rest
  pub inside : IsInside quote content

pub read_none : (quote : ℕ) (text : List ℕ) → IsRead quote text text
read_none quote text = record { content = []; parts = refl; inside = record { says = []; goes_on = λ ws. sym (before_nil (unquoted quote ws)) } }

pub read_plain : (quote : ℕ) (text : List ℕ) (c : ℕ) (rest : List ℕ) → IsRead quote text (c ∷ rest) → eqb c quote ≡ false → eqb c 92 ≡ false → IsRead quote text rest
read_plain quote text c rest r n m = record {
  content = r.content ++ c ∷ [];
  parts = r.parts ∙ sym (append_assoc r.content (c ∷ []) rest);
  inside = record {
    says = r.inside.says ++ c ∷ [];
    goes_on = λ ws. ap (unquoted quote) (append_assoc r.content (c ∷ []) ws) ∙ r.inside.goes_on (c ∷ ws) ∙ ap (before r.inside.says) (plain ws) ∙ before_both r.inside.says (c ∷ []) (unquoted quote ws);
  };
}
  where
    plain : (ws : List ℕ) → unquoted quote (c ∷ ws) ≡ before (c ∷ []) (unquoted quote ws)
    plain ws = ap (λ t. cond t (closed ws) (cond (eqb c 92) (escaped quote ws) (before (c ∷ []) (unquoted quote ws)))) n ∙ ap (λ t. cond t (escaped quote ws) (before (c ∷ []) (unquoted quote ws))) m

pub read_escape : (quote : ℕ) (text : List ℕ) (c : ℕ) (rest : List ℕ) (ch : ℕ) (after : List ℕ) → IsRead quote text (c ∷ rest) → eqb c quote ≡ false → eqb c 92 ≡ true → escape_at rest ≡ Some (ch, after) → IsRead quote text after
read_escape quote text c rest ch after r n m h =
    let e = escape_is rest ch after h in
    record {
      content = r.content ++ c ∷ e.written;
      parts = r.parts ∙ ap (λ (z : List ℕ). r.content ++ c ∷ z) e.parts ∙ sym (append_assoc r.content (c ∷ e.written) after);
      inside = record {
        says = r.inside.says ++ encode_utf8 ch;
        goes_on = λ ws. ap (unquoted quote) (append_assoc r.content (c ∷ e.written) ws) ∙ r.inside.goes_on (c ∷ (e.written ++ ws))
            ∙ ap (before r.inside.says) (step (e.written ++ ws) ∙ e.goes_on quote ws) ∙ before_both r.inside.says (encode_utf8 ch) (unquoted quote ws);
      };
    }
  where
    step : (ws : List ℕ) → unquoted quote (c ∷ ws) ≡ escaped quote ws
    step ws = ap (λ t. cond t (closed ws) (cond (eqb c 92) (escaped quote ws) (before (c ∷ []) (unquoted quote ws)))) n ∙ ap (λ t. cond t (escaped quote ws) (before (c ∷ []) (unquoted quote ws))) m

pub read_length : (quote : ℕ) (text rest : List ℕ) → (r : IsRead quote text rest) → length text ≡ length r.content + length rest
read_length quote text rest r = ap length r.parts ∙ length-append r.content rest

pub read_closes : (quote : ℕ) (text : List ℕ) (c : ℕ) (rest : List ℕ) (on : ℕ) → IsRead quote text (c ∷ rest) → eqb c quote ≡ true → on + length (c ∷ rest) ≡ length text → ClosesAt quote text on
read_closes quote text c rest on r e n = record {
  content = r.content;
  rest = rest;
  parts = r.parts ∙ ap (λ (z : ℕ). r.content ++ z ∷ rest) (eqb-true c quote e);
  inside = r.inside;
  on_is = omega (arith, read_length quote text (c ∷ rest) r);
}

pub read_ends : (quote : ℕ) (text rest : List ℕ) (on : ℕ) → IsRead quote text rest → length rest ≡ 0 → on + length rest ≡ length text → FailsAt quote text on
read_ends quote text [] on r z n = record { content = r.content; rest = []; parts = r.parts; inside = r.inside; on_is = omega (arith, read_length quote text [] r); fails = inl refl }
read_ends quote text (c ∷ rest) on r z n = absurd (omega arith)

pub read_fails : (quote : ℕ) (text : List ℕ) (c : ℕ) (rest : List ℕ) (on : ℕ) → IsRead quote text (c ∷ rest) → eqb c 92 ≡ true → escape_at rest ≡ None → on + length (c ∷ rest) ≡ length text → FailsAt quote text on
read_fails quote text c rest on r m h n = record {
  content = r.content;
  rest = c ∷ rest;
  parts = r.parts;
  inside = r.inside;
  on_is = omega (arith, read_length quote text (c ∷ rest) r);
  fails = inr (rest, ap (λ (z : ℕ). z ∷ rest) (eqb-true c 92 m), h);
}

-- the steps of the loop, over a slice that is not empty

pub tail_is : (c : ℕ) (rest : List ℕ) → take (length (c ∷ rest) - 1) (drop 1 (c ∷ rest)) ≡ rest
tail_is c rest = take_all (length (c ∷ rest) - 1) rest (omega arith)

pub step_plain : (quote : ℕ) (text rest : List ℕ) → IsRead quote text rest → 0 < length rest → (get_or rest 0 0 ≡ quote → ⊥) → (get_or rest 0 0 ≡ 92 → ⊥) → IsRead quote text (take (length rest - 1) (drop 1 rest))
step_plain quote text [] r h n m = absurd (omega arith)
step_plain quote text (c ∷ rest) r h n m = rw (tail_is c rest) (read_plain quote text c rest r (ne_eqb c quote n) (ne_eqb c 92 m))

pub step_escape : (quote : ℕ) (text rest : List ℕ) (ch : ℕ) (after : List ℕ) → IsRead quote text rest → 0 < length rest → (get_or rest 0 0 ≡ quote → ⊥) → get_or rest 0 0 ≡ 92
    → Some (ch, after) ≡ escape_at (take (length rest - 1) (drop 1 rest)) → IsRead quote text after
step_escape quote text [] ch after r h n m e = absurd (omega arith)
step_escape quote text (c ∷ rest) ch after r h n m e = read_escape quote text c rest ch after r (ne_eqb c quote n) (eq-eqb c 92 m) (ap escape_at (sym (tail_is c rest)) ∙ sym e)

pub escape_shorter : (behind : List ℕ) (ch : ℕ) (after : List ℕ) → Some (ch, after) ≡ escape_at behind → length after ≤ length behind
escape_shorter behind ch after e = let s = escape_is behind ch after (sym e) in omega (arith, ap length s.parts, length-append s.written after)

pub step_smaller : (rest : List ℕ) (ch : ℕ) (after : List ℕ) → 0 < length rest → Some (ch, after) ≡ escape_at (take (length rest - 1) (drop 1 rest)) → length after < length rest
step_smaller [] ch after h e = absurd (omega arith)
step_smaller (c ∷ rest) ch after h e = let s = escape_shorter rest ch after (e ∙ ap escape_at (tail_is c rest)) in omega arith

pub stop_closes : (quote : ℕ) (text rest : List ℕ) → IsRead quote text rest → 0 < length rest → get_or rest 0 0 ≡ quote → ClosesAt quote text (length text - length rest)
stop_closes quote text [] r h e = absurd (omega arith)
stop_closes quote text (c ∷ rest) r h e = read_closes quote text c rest (length text - length (c ∷ rest)) r (eq-eqb c quote e) (let l = read_length quote text (c ∷ rest) r in omega arith)

pub stop_ends : (quote : ℕ) (text rest : List ℕ) → IsRead quote text rest → length rest ≡ 0 → FailsAt quote text (length text - length rest)
stop_ends quote text rest r h = read_ends quote text rest (length text - length rest) r h (let l = read_length quote text rest r in omega arith)

pub stop_fails : (quote : ℕ) (text rest : List ℕ) → IsRead quote text rest → 0 < length rest → get_or rest 0 0 ≡ 92 → None ≡ escape_at (take (length rest - 1) (drop 1 rest)) → FailsAt quote text (length text - length rest)
stop_fails quote text [] r h m e = absurd (omega arith)
stop_fails quote text (c ∷ rest) r h m e = read_fails quote text c rest (length text - length (c ∷ rest)) r (eq-eqb c 92 m) (ap escape_at (sym (tail_is c rest)) ∙ sym e) (let l = read_length quote text (c ∷ rest) r in omega arith)
