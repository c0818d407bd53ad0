-- What is resolved so far of a quoted text.
use Rattle.std.proofs.Common.{◌≡◌, ℕ, ◌<◌, ◌-◌, Bool, true, false, cond, ◌&&◌, ◌||◌, not, List, [], ◌∷◌, ◌++◌, length, take, drop, get_or, Option, Some, None, refl, sym, ap, subst, ◌∙◌, arith, eqb, length-append, IsSome}
use Rattle.std.specs.Prelude.{encode_utf8, nat_lt}
use Rattle.std.specs.List.{list_all}
use Rattle.std.specs.Str.{IsUtf8, IsCharBoundary}
use Rattle.std.proofs.lemmas.Bool.{eqb-true}
use Rattle.std.proofs.lemmas.Bool.Decides.{nat_tests}
use Rattle.std.proofs.lemmas.List.{append-nil, take-append-drop, length-take-le, get_or_at, drop_at}
use Rattle.std.proofs.lemmas.Str.{IsCharBoundary-after_ascii, IsCharBoundary-before_ascii}
use Rattle.expr_tokens.specs.Words.{first_is}
use Rattle.expr_tokens.specs.Quoted.{is_quote, is_hex, letters, letter_in, coded, coded_at, then_rest, escape_at, meaning, said, before, closed, unquoted, escaped, hex_number, is_surrogate}
use Rattle.expr_tokens.specs.Working.Scanning.{IsRun, is_plain, seen}
use Rattle.std.specs.Borrow.{Bor}
use Rattle.expr_tokens.proofs.Runs.{and_true, or_false, not_true, quote_ascii}
use Rattle.expr_tokens.proofs.Texts.{before_nil, before_both, escape_is, tail_is, meaning_said}
use Rattle.expr_tokens.proofs.Same.{escaped_some, before_some, meaning_quote, quote_is, quote_no_slash}

pub record IsSaid (q : ℕ) (all out rest : List ℕ) : Type 0 where
  pub quoted : is_quote q ≡ true
  pub same : Some all ≡ before out (unquoted q rest)

pub said_start : (written : List ℕ) → IsSome (meaning written) → IsSaid (get_or written 0 0) (said written) [] (drop 1 written)
said_start [] h = absurd cc
said_start (q ∷ cs) h =
    let e = meaning_said (q ∷ cs) h in
    let p = meaning_quote q cs (said (q ∷ cs)) e in
    record { quoted = p.0; same = sym p.1 ∙ sym (before_nil (unquoted q cs)) }

pub said_boundary : (written : List ℕ) → IsSome (meaning written) → IsUtf8 written → IsCharBoundary written 1
said_boundary [] h u = absurd cc
said_boundary (q ∷ cs) h u =
    let p = meaning_quote q cs (said (q ∷ cs)) (meaning_said (q ∷ cs) h) in
    IsCharBoundary-after_ascii (q ∷ cs) 0 u (omega arith) (quote_ascii q p.0)

pub said_some : (written : List ℕ) → IsSome (meaning written) → 0 < length written
said_some [] h = absurd cc
said_some (q ∷ cs) h = omega arith

plain_byte : (q c : ℕ) (ws : List ℕ) → is_plain q c ≡ true → unquoted q (c ∷ ws) ≡ before (c ∷ []) (unquoted q ws)
plain_byte q c ws h =
    let p = or_false (eqb c q) (eqb c 92) (not_true (eqb c q || eqb c 92) h) in
    ap (λ t. cond t (closed ws) (cond (eqb c 92) (escaped q ws) (before (c ∷ []) (unquoted q ws)))) p.0 ∙ ap (λ t. cond t (escaped q ws) (before (c ∷ []) (unquoted q ws))) p.1

plain_all : (q : ℕ) (xs ys : List ℕ) → list_all (is_plain q) xs ≡ true → unquoted q (xs ++ ys) ≡ before xs (unquoted q ys)
plain_all q [] ys h = sym (before_nil (unquoted q ys))
plain_all q (c ∷ xs) ys h =
    let p = and_true (is_plain q c) (list_all (is_plain q) xs) h in
    plain_byte q c (xs ++ ys) p.0 ∙ ap (before (c ∷ [])) (plain_all q xs ys p.1) ∙ before_both (c ∷ []) xs (unquoted q ys)

pub said_run : (q : ℕ) (all out rest : List ℕ) (n : ℕ) → IsSaid q all out rest → IsRun (is_plain q) rest n → IsSaid q all (out ++ take n rest) (drop n rest)
said_run q all out rest n s r = record {
  quoted = s.quoted;
  same = s.same ∙ ap (λ (z : List ℕ). before out (unquoted q z)) (sym (take-append-drop n rest)) ∙ ap (before out) (plain_all q (take n rest) (drop n rest) r.passes) ∙ before_both out (take n rest) (unquoted q (drop n rest));
}

-- what stands behind the run is the quote or a backslash
stop_is : (q : ℕ) (all out rest : List ℕ) → IsSaid q all out rest → first_is (is_plain q) rest ≡ false → (c : ℕ) × (cs : List ℕ) × (rest ≡ c ∷ cs) × (c < 128)
stop_is q all out [] s h = let n = s.same in absurd cc
stop_is q all out (c ∷ cs) s h = (c, cs, refl, low (eqb c q) (eqb c 92) refl refl h)
  where
    low : (a b : Bool) → eqb c q ≡ a → eqb c 92 ≡ b → not (a || b) ≡ false → c < 128
    low true b e f k = let e' = eqb-true c q e in let l = quote_ascii q s.quoted in omega arith
    low false true e f k = let f' = eqb-true c 92 f in omega arith
    low false false e f k = absurd cc

pub run_boundary : (q : ℕ) (all out rest : List ℕ) (n : ℕ) → IsSaid q all out rest → IsRun (is_plain q) rest n → IsCharBoundary rest n
run_boundary q all out rest n s r =
    let p = stop_is q all (out ++ take n rest) (drop n rest) (said_run q all out rest n s r) r.stops in
    let e : rest ≡ take n rest ++ p.0 ∷ p.1 = sym (take-append-drop n rest) ∙ ap (λ (z : List ℕ). take n rest ++ z) p.2 in
    let l = length-take-le n rest r.within in
    let at : get_or rest n 0 ≡ p.0 = ap (λ (z : List ℕ). get_or z n 0) e ∙ get_or_at (take n rest) p.0 p.1 0 n l in
    let low = p.3 in
    IsCharBoundary-before_ascii rest n (omega (arith, ap length e, length-append (take n rest) (p.0 ∷ p.1))) (omega arith)

pub said_done : (q : ℕ) (all out rest : List ℕ) → IsSaid q all out rest → first_is (is_plain q) rest ≡ false → (0 < length rest → get_or rest 0 0 ≡ 92 → ⊥) → out ≡ all
said_done q all out [] s h n = let m = s.same in absurd cc
said_done q all out (c ∷ cs) s h n = go (eqb c q) (eqb c 92) refl refl h s.same
  where
    ends : (es : List ℕ) → Some all ≡ before out (closed es) → out ≡ all
    ends [] e = let k : Some all ≡ Some (out ++ []) = e in let m : all ≡ out ++ [] = cc in sym (m ∙ append-nil out)
    ends (x ∷ es) e = absurd cc

    go : (a b : Bool) → eqb c q ≡ a → eqb c 92 ≡ b → not (a || b) ≡ false → Some all ≡ before out (cond a (closed cs) (cond b (escaped q cs) (before (c ∷ []) (unquoted q cs)))) → out ≡ all
    go true b e f k m = ends cs m
    go false true e f k m = absurd (n (omega arith) (eqb-true c 92 f))
    go false false e f k m = absurd cc

slash_step : (q : ℕ) (cs : List ℕ) → is_quote q ≡ true → unquoted q (92 ∷ cs) ≡ escaped q cs
slash_step q cs h = ap (λ b. cond b (closed cs) (escaped q cs)) (quote_is q (λ z. eqb 92 z ≡ false) h refl refl)

-- behind a backslash an escape stands
pub said_escapes : (q : ℕ) (all out rest : List ℕ) → IsSaid q all out rest → 0 < length rest → get_or rest 0 0 ≡ 92 → IsSome (escape_at (take (length rest - 1) (drop 1 rest)))
said_escapes q all out [] s h e = absurd (omega arith)
said_escapes q all out (c ∷ cs) s h e =
    let m = before_some out (unquoted q (c ∷ cs)) all (sym s.same) in
    let k = sym (ap (λ (z : ℕ). unquoted q (z ∷ cs)) e ∙ slash_step q cs s.quoted) ∙ m.1 in
    let x = escaped_some q cs m.0 k in
    subst (λ (o : Option (ℕ × List ℕ)). IsSome o) (sym (ap escape_at (tail_is c cs) ∙ x.escape)) refl

pub said_escape : (q : ℕ) (all out rest : List ℕ) (ch : ℕ) (after : List ℕ) → IsSaid q all out rest → 0 < length rest → get_or rest 0 0 ≡ 92 → Some (ch, after) ≡ escape_at (take (length rest - 1) (drop 1 rest)) → IsSaid q all (out ++ encode_utf8 ch) after
said_escape q all out [] ch after s h e k = absurd (omega arith)
said_escape q all out (c ∷ cs) ch after s h e k =
    let x = escape_is cs ch after (ap escape_at (sym (tail_is c cs)) ∙ sym k) in
    let step = ap (λ (z : ℕ). unquoted q (z ∷ cs)) e ∙ slash_step q cs s.quoted ∙ ap (escaped q) x.parts ∙ x.goes_on q after in
    record { quoted = s.quoted; same = s.same ∙ ap (before out) step ∙ before_both out (encode_utf8 ch) (unquoted q after) }

-- an escape is ASCII, so the text may be cut behind it

letter_low : (ps : List (ℕ × ℕ)) (e x : ℕ) → list_all (λ p. nat_lt p.0 128) ps ≡ true → letter_in ps e ≡ Some x → e < 128
letter_low [] e x h k = absurd cc
letter_low (p ∷ ps) e x h k =
    let a = and_true (nat_lt p.0 128) (list_all (λ z. nat_lt z.0 128) ps) h in
    go (eqb p.0 e) refl k a.0 (letter_low ps e x a.1)
  where
    low_is : (c : ℕ) → nat_lt c 128 ≡ true → c < 128
    low_is c h' = grind (arith, nat_tests)

    go : (b : Bool) → eqb p.0 e ≡ b → cond b (Some p.1) (letter_in ps e) ≡ Some x → nat_lt p.0 128 ≡ true → (letter_in ps e ≡ Some x → e < 128) → e < 128
    go true f k' l next = let f' = eqb-true p.0 e f in let l' = low_is p.0 l in omega arith
    go false f k' l next = next k'

hex_low : (c : ℕ) → is_hex c ≡ true → c < 128
hex_low c h = grind (arith, nat_tests)

coded_low : (a b c d x : ℕ) → coded a b c d ≡ Some x → d < 128
coded_low a b c d x e = go (is_hex a && is_hex b && is_hex c) (is_hex d) (not (is_surrogate (hex_number a b c d))) refl e
  where
    go : (h k s : Bool) → is_hex d ≡ k → cond (h && k && s) (Some (hex_number a b c d)) None ≡ Some x → d < 128
    go true true s f e' = hex_low d f
    go true false s f e' = absurd cc
    go false k s f e' = absurd cc

some_rest : (o : Option ℕ) (rest : List ℕ) (ch : ℕ) (after : List ℕ) → then_rest o rest ≡ Some (ch, after) → (x : ℕ) × (o ≡ Some x) × (rest ≡ after)
some_rest None rest ch after e = absurd cc
some_rest (Some x) rest ch after e =
    let p : ℕ × List ℕ = (x, rest) in
    let q : ℕ × List ℕ = (ch, after) in
    let same : p ≡ q = cc in
    (x, refl, ap (λ (z : ℕ × List ℕ). z.1) same)

escape_cut : (c : ℕ) (behind : List ℕ) (ch : ℕ) (after : List ℕ) → escape_at behind ≡ Some (ch, after) → IsUtf8 (c ∷ behind) → IsCharBoundary (c ∷ behind) (length (c ∷ behind) - length after)
escape_cut c [] ch after h u = absurd cc
escape_cut c (e ∷ rest) ch after h u = go (eqb e 117) refl h
  where
    codes : (r : List ℕ) → coded_at r ≡ Some (ch, after) → IsUtf8 (c ∷ e ∷ r) → IsCharBoundary (c ∷ e ∷ r) (length (c ∷ e ∷ r) - length after)
    codes [] k v = absurd cc
    codes (x ∷ []) k v = absurd cc
    codes (x ∷ y ∷ []) k v = absurd cc
    codes (x ∷ y ∷ z ∷ []) k v = absurd cc
    codes (x ∷ y ∷ z ∷ w ∷ r) k v =
        let s = some_rest (coded x y z w) r ch after k in
        let l = coded_low x y z w s.0 s.1 in
        let n : length r ≡ length after = ap length s.2 in
        subst (λ (i : ℕ). IsCharBoundary (c ∷ e ∷ x ∷ y ∷ z ∷ w ∷ r) i) (omega arith) (IsCharBoundary-after_ascii (c ∷ e ∷ x ∷ y ∷ z ∷ w ∷ r) 5 v (omega arith) l)

    go : (t : Bool) → eqb e 117 ≡ t → cond {A = Option (ℕ × List ℕ)} t (coded_at rest) (then_rest (letter_in letters e) rest) ≡ Some (ch, after) → IsCharBoundary (c ∷ e ∷ rest) (length (c ∷ e ∷ rest) - length after)
    go true f k = codes rest k u
    go false f k =
        let s = some_rest (letter_in letters e) rest ch after k in
        let l = letter_low letters e s.0 refl s.1 in
        let n : length rest ≡ length after = ap length s.2 in
        subst (λ (i : ℕ). IsCharBoundary (c ∷ e ∷ rest) i) (omega arith) (IsCharBoundary-after_ascii (c ∷ e ∷ rest) 1 u (omega arith) l)

pub escape_boundary : (rest : List ℕ) (ch : ℕ) (after : List ℕ) → 0 < length rest → Some (ch, after) ≡ escape_at (take (length rest - 1) (drop 1 rest)) → IsUtf8 rest → IsCharBoundary rest (length rest - length after)
escape_boundary [] ch after h e u = absurd (omega arith)
escape_boundary (c ∷ cs) ch after h e u = escape_cut c cs ch after (ap escape_at (sym (tail_is c cs)) ∙ sym e) u

-- what follows the escape
pub escape_after : (rest : List ℕ) (ch : ℕ) (after : List ℕ) → 0 < length rest → Some (ch, after) ≡ escape_at (take (length rest - 1) (drop 1 rest)) → drop (length rest - length after) rest ≡ after
escape_after [] ch after h e = absurd (omega arith)
escape_after (c ∷ cs) ch after h e =
    let x = escape_is cs ch after (ap escape_at (sym (tail_is c cs)) ∙ sym e) in
    let p : c ∷ cs ≡ (c ∷ x.written) ++ after = ap (λ (z : List ℕ). c ∷ z) x.parts in
    let n : length (c ∷ x.written) ≡ length (c ∷ cs) - length after = omega (arith, ap length x.parts, length-append x.written after) in
    ap (drop (length (c ∷ cs) - length after)) p ∙ drop_at (c ∷ x.written) after (length (c ∷ cs) - length after) n

pub said_pushed : (q : ℕ) (all old rest new plain behind : List ℕ) (n : ℕ) → IsSaid q all old rest → IsRun (is_plain q) rest n → new ≡ old ++ plain → plain ≡ take n rest → behind ≡ drop n rest → IsSaid q all new behind
said_pushed q all old rest new plain behind n s r e f g =
    subst (λ (z : List ℕ). IsSaid q all new z) (sym g) (subst (λ (z : List ℕ). IsSaid q all z (drop n rest)) (sym (e ∙ ap (λ (z : List ℕ). old ++ z) f)) (said_run q all old rest n s r))

-- behind a run of plain bytes

pub stop_some : (q : ℕ) (all out rest : List ℕ) → IsSaid q all out rest → first_is (is_plain q) rest ≡ false → 0 < length rest
stop_some q all out [] s h = let n = s.same in absurd cc
stop_some q all out (c ∷ cs) s h = omega arith

pub stop_slash : (q : ℕ) (all out rest : List ℕ) → IsSaid q all out rest → first_is (is_plain q) rest ≡ false → (get_or rest 0 0 ≡ q → ⊥) → get_or rest 0 0 ≡ 92
stop_slash q all out [] s h n = let m = s.same in absurd cc
stop_slash q all out (c ∷ cs) s h n = go (eqb c q) (eqb c 92) refl refl h
  where
    go : (a b : Bool) → eqb c q ≡ a → eqb c 92 ≡ b → not (a || b) ≡ false → c ≡ 92
    go true b e f k = absurd (n (eqb-true c q e))
    go false true e f k = eqb-true c 92 f
    go false false e f k = absurd cc

pub stop_quote : (q : ℕ) (all out rest : List ℕ) → IsSaid q all out rest → first_is (is_plain q) rest ≡ false → get_or rest 0 0 ≡ q → out ≡ all
stop_quote q all out rest s h e = said_done q all out rest s h (λ n f. let k = sym (quote_no_slash q s.quoted) ∙ ap (λ (z : ℕ). eqb z 92) (sym e ∙ f) in cc)

pub found_escape : (o : Option (ℕ × Bor (List ℕ))) (text : List ℕ) → seen o ≡ escape_at text → IsSome (escape_at text) → IsSome o
found_escape None text e h = let k = subst (λ (z : Option (ℕ × List ℕ)). IsSome z) (sym e) h in absurd cc
found_escape (Some x) text e h = refl

pub seen_escape : (o : Option (ℕ × Bor (List ℕ))) (x : ℕ × Bor (List ℕ)) (text : List ℕ) → seen o ≡ escape_at text → o ≡ Some x → Some (x.0, x.1.now) ≡ escape_at text
seen_escape o x text e h = sym (ap seen h) ∙ e

-- what is known behind a run that was pushed
pub record IsStop (q : ℕ) (all out bytes : List ℕ) : Type 0 where
  pub so_far : IsSaid q all out bytes
  pub stops : first_is (is_plain q) bytes ≡ false
  pub some : 0 < length bytes

pub arrives : (q : ℕ) (all old rest new plain bytes behind : List ℕ) (n : ℕ) → IsSaid q all old rest → IsRun (is_plain q) rest n → new ≡ old ++ plain → plain ≡ take n rest → behind ≡ drop n rest → bytes ≡ behind → IsStop q all new bytes
arrives q all old rest new plain bytes behind n s r e f g h =
    let x = said_pushed q all old rest new plain bytes n s r e f (h ∙ g) in
    let y = ap (first_is (is_plain q)) (h ∙ g) ∙ r.stops in
    record { so_far = x; stops = y; some = stop_some q all new bytes x y }

pub escape_here : (q : ℕ) (all out bytes : List ℕ) → IsStop q all out bytes → (get_or bytes 0 0 ≡ q → ⊥) → IsSome (escape_at (take (length bytes - 1) (drop 1 bytes)))
escape_here q all out bytes s n = said_escapes q all out bytes s.so_far s.some (stop_slash q all out bytes s.so_far s.stops n)
