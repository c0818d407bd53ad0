-- The first sign of the table that fits is the longest.
use Rattle.std.proofs.Common.{◌≡◌, ℕ, Bool, true, false, cond, ◌&&◌, List, [], ◌∷◌, ◌++◌, length, Option, Some, None, refl, sym, ap, subst, ◌∙◌, eqb, append_assoc}
use Rattle.std.specs.Prelude.{nat_lt}
use Rattle.std.specs.List.{list_all}
use Rattle.std.specs.Str.{bytes_eq}
use Rattle.std.proofs.lemmas.Bool.{eqb-true, eq-eqb}
use Rattle.std.proofs.lemmas.Slice.Eq.{bytes_eq-Decides}
use Rattle.expr_tokens.specs.declared.token.Token.{Token}
use Rattle.expr_tokens.specs.Token.{signs, word_in}
use Rattle.expr_tokens.specs.Working.Scanning.{begins_with, first_in}
use Rattle.expr_tokens.proofs.Runs.{and_true}

-- what is behind the word, where the text begins with it
abbrev behind : List ℕ → List ℕ → Option (List ℕ)
behind [] text = Some text
behind (c ∷ cs) [] = None
behind (c ∷ cs) (d ∷ ds) = cond (eqb d c) (behind cs ds) None

begins_behind : (p text : List ℕ) → begins_with p text ≡ true → (rest : List ℕ) × (text ≡ p ++ rest)
begins_behind [] text e = (text, refl)
begins_behind (c ∷ cs) [] e = absurd cc
begins_behind (c ∷ cs) (d ∷ ds) e = go (eqb d c) refl e (begins_behind cs ds)
  where
    go : (b : Bool) → eqb d c ≡ b → cond b (begins_with cs ds) false ≡ true → (begins_with cs ds ≡ true → (rest : List ℕ) × (ds ≡ cs ++ rest)) → (rest : List ℕ) × (d ∷ ds ≡ c ∷ (cs ++ rest))
    go true h e' next = let same = eqb-true d c h in let t = next e' in (t.0, ap (λ (z : ℕ). z ∷ ds) same ∙ ap (λ (z : List ℕ). c ∷ z) t.1)
    go false h e' next = absurd cc

begins_itself : (p rest : List ℕ) → begins_with p (p ++ rest) ≡ true
begins_itself [] rest = refl
begins_itself (c ∷ cs) rest = ap (λ b. cond b (begins_with cs (cs ++ rest)) false) (eq-eqb c c refl) ∙ begins_itself cs rest

behind_front : (p rest : List ℕ) → behind p (p ++ rest) ≡ Some rest
behind_front [] rest = refl
behind_front (c ∷ cs) rest = ap (λ b. cond b (behind cs (cs ++ rest)) None) (eq-eqb c c refl) ∙ behind_front cs rest

-- the second does not go on from the first
abbrev apart : Option (List ℕ) → Bool
apart None = true
apart (Some []) = true
apart (Some (c ∷ cs)) = false

abbrev ordered : List (List ℕ × Token) → Bool
ordered [] = true
ordered (s ∷ ss) = list_all (λ u. apart (behind s.0 u.0)) ss && ordered ss

pub signs_ordered : ordered signs ≡ true
signs_ordered = refl

abbrev pub is_low : ℕ → Bool
is_low c = nat_lt c 128

abbrev low : List (List ℕ × Token) → Bool
low ss = list_all (λ s. list_all is_low s.0) ss

pub signs_low : low signs ≡ true
signs_low = refl

entry : (s : List ℕ × Token) (ss : List (List ℕ × Token)) (w : List ℕ) → (s.0 ≡ w → ⊥) → word_in (s ∷ ss) w ≡ word_in ss w
entry s ss w differ = go (bytes_eq s.0 w) refl
  where
    go : (b : Bool) → bytes_eq s.0 w ≡ b → cond b (Some s.1) (word_in ss w) ≡ word_in ss w
    go true e = absurd (differ ((bytes_eq-Decides s.0 w).0 e))
    go false e = refl

hit : (s : List ℕ × Token) (ss : List (List ℕ × Token)) → word_in (s ∷ ss) s.0 ≡ Some s.1
hit s ss = ap (λ b. cond b (Some s.1) (word_in ss s.0)) ((bytes_eq-Decides s.0 s.0).1 refl)

later_none : (p : List ℕ) (c : ℕ) (more : List ℕ) (ss : List (List ℕ × Token)) → list_all (λ u. apart (behind p u.0)) ss ≡ true → word_in ss (p ++ c ∷ more) ≡ None
later_none p c more [] h = refl
later_none p c more (u ∷ us) h =
    let t = and_true (apart (behind p u.0)) (list_all (λ v. apart (behind p v.0)) us) h in
    entry u us (p ++ c ∷ more) (λ e. let k : apart (Some (c ∷ more)) ≡ true = subst (λ (o : Option (List ℕ)). apart o ≡ true) (ap (behind p) e ∙ behind_front p (c ∷ more)) t.0 in cc)
    ∙ later_none p c more us t.1

not_itself : (p : List ℕ) (c : ℕ) (more : List ℕ) → p ≡ p ++ c ∷ more → ⊥
not_itself [] c more e = cc
not_itself (x ∷ xs) c more e = not_itself xs c more cc

pub record Chosen (ss : List (List ℕ × Token)) (text : List ℕ) (u : Token) (n : ℕ) : Type 0 where
  pub word : List ℕ
  pub rest : List ℕ
  pub parts : text ≡ word ++ rest
  pub bytes : length word ≡ n
  pub is_low : list_all is_low word ≡ true
  pub spells : word_in ss word ≡ Some u
  pub longest : (c : ℕ) (more others : List ℕ) → rest ≡ c ∷ (more ++ others) → word_in ss (word ++ c ∷ more) ≡ None

-- an entry that does not stand at the front is no front of the text
other : (s : List ℕ × Token) (ss : List (List ℕ × Token)) (text w rest : List ℕ) → begins_with s.0 text ≡ false → text ≡ w ++ rest → word_in (s ∷ ss) w ≡ word_in ss w
other s ss text w rest e parts = entry s ss w (λ same. let k = sym e ∙ ap (begins_with s.0) parts ∙ ap (λ (v : List ℕ). begins_with v (w ++ rest)) same ∙ begins_itself w rest in cc)

regroup : (w : List ℕ) (c : ℕ) (more others text rest : List ℕ) → text ≡ w ++ rest → rest ≡ c ∷ (more ++ others) → text ≡ (w ++ c ∷ more) ++ others
regroup w c more others text rest e k = e ∙ ap (λ (r : List ℕ). w ++ r) k ∙ sym (append_assoc w (c ∷ more) others)

pub sign_found : (ss : List (List ℕ × Token)) (text : List ℕ) (u : Token) (n : ℕ) → ordered ss ≡ true → low ss ≡ true → first_in ss text ≡ Some (u, n) → Chosen ss text u n
sign_found [] text u n h l e = absurd cc
sign_found (s ∷ ss) text u n h l e =
    let t = and_true (list_all (λ v. apart (behind s.0 v.0)) ss) (ordered ss) h in
    let k = and_true (list_all is_low s.0) (low ss) l in
    go (begins_with s.0 text) refl e t.0 k.0 (sign_found ss text u n t.1 k.1)
  where
    go : (b : Bool) → begins_with s.0 text ≡ b → cond {A = Option (Token × ℕ)} b (Some (s.1, length s.0)) (first_in ss text) ≡ Some (u, n) → list_all (λ v. apart (behind s.0 v.0)) ss ≡ true → list_all is_low s.0 ≡ true
        → (first_in ss text ≡ Some (u, n) → Chosen ss text u n) → Chosen (s ∷ ss) text u n
    go false k e' a b next =
        let f = next e' in
        record {
          word = f.word;
          rest = f.rest;
          parts = f.parts;
          bytes = f.bytes;
          is_low = f.is_low;
          spells = other s ss text f.word f.rest k f.parts ∙ f.spells;
          longest = λ c more others r. other s ss text (f.word ++ c ∷ more) others k (regroup f.word c more others text f.rest f.parts r) ∙ f.longest c more others r;
        }
    go true k e' a b next =
        let x : Token × ℕ = (s.1, length s.0) in
        let y : Token × ℕ = (u, n) in
        let same : x ≡ y = cc in
        let token : s.1 ≡ u = ap (λ (z : Token × ℕ). z.0) same in
        let bytes : length s.0 ≡ n = ap (λ (z : Token × ℕ). z.1) same in
        let p = begins_behind s.0 text k in
        record {
          word = s.0;
          rest = p.0;
          parts = p.1;
          bytes = bytes;
          is_low = b;
          spells = hit s ss ∙ ap (λ (z : Token). Some z) token;
          longest = λ c more others r'. entry s ss (s.0 ++ c ∷ more) (not_itself s.0 c more) ∙ later_none s.0 c more ss a;
        }

pub sign_none : (ss : List (List ℕ × Token)) (text w rest : List ℕ) → first_in ss text ≡ None → text ≡ w ++ rest → word_in ss w ≡ None
sign_none [] text w rest e parts = refl
sign_none (s ∷ ss) text w rest e parts = go (begins_with s.0 text) refl e (λ n. sign_none ss text w rest n parts)
  where
    go : (b : Bool) → begins_with s.0 text ≡ b → cond {A = Option (Token × ℕ)} b (Some (s.1, length s.0)) (first_in ss text) ≡ None → (first_in ss text ≡ None → word_in ss w ≡ None) → word_in (s ∷ ss) w ≡ None
    go false k e' next = other s ss text w rest k parts ∙ next e'
    go true k e' next = absurd cc
