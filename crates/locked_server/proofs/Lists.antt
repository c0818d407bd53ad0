-- Beginnings of lists, and the calls of some numbers.
use Rattle.std.proofs.Common.{◌≡◌, ℕ, ◌<◌, ◌≤◌, Bool, true, false, cond, ◌||◌, eqb, List, [], ◌∷◌, ◌++◌, refl, ap, sym, subst, ◌∙◌, arith, append_assoc, append-nil, inl, inr, eq-eqb, ne_eqb}
use Rattle.std.specs.Prelude.{IsTrue}
use Rattle.std.proofs.lemmas.List.Elements.{filter-append}
use mathlib.Core.List.{IsPrefix}
use Rattle.locked_server.specs.declared.entry.Entry.{Entry}
use Rattle.locked_server.specs.History.{is_in, calls_of, Shuffled}
use Rattle.locked_server.specs.Working.Rule.{AreBelow}

module _ {A : Type 0} where
  pub prefix_self : (xs : List A) → IsPrefix xs xs
  prefix_self xs = ([], append-nil xs)

  pub prefix_longer : (xs ys zs : List A) → IsPrefix xs ys → IsPrefix xs (ys ++ zs)
  prefix_longer xs ys zs p = (p.0 ++ zs, sym (append_assoc xs p.0 zs) ∙ ap (λ w. w ++ zs) p.1)

pub either_true : (a b : Bool) (P : Type 0) → (a ≡ true → P) → (b ≡ true → P) → (a || b) ≡ true → P
either_true true b P f g e = f refl
either_true false b P f g e = g e

or_assoc : (a b c : Bool) → (a || (b || c)) ≡ ((a || b) || c)
or_assoc true b c = refl
or_assoc false b c = refl

pub is_in-here : (n : ℕ) (ns : List ℕ) → is_in (n ∷ ns) n ≡ true
is_in-here n ns = ap (λ b. b || is_in ns n) (eq-eqb n n refl)

pub is_in-append : (ms ns : List ℕ) (n : ℕ) → is_in (ms ++ ns) n ≡ (is_in ms n || is_in ns n)
is_in-append [] ns n = refl
is_in-append (m ∷ ms) ns n = ap (λ b. eqb m n || b) (is_in-append ms ns n) ∙ or_assoc (eqb m n) (is_in ms n) (is_in ns n)

pub calls_of-snoc : (ns : List ℕ) (es : List Entry) (e : Entry) → is_in ns e.seat ≡ true → calls_of ns (es ++ e ∷ []) ≡ calls_of ns es ++ e ∷ []
calls_of-snoc ns es e h = filter-append (λ (x : Entry). is_in ns x.seat) es (e ∷ []) ∙ ap (λ (b : Bool). calls_of ns es ++ cond b (e ∷ []) []) h

pub calls_of-other : (ns : List ℕ) (es : List Entry) (e : Entry) → is_in ns e.seat ≡ false → calls_of ns (es ++ e ∷ []) ≡ calls_of ns es
calls_of-other ns es e h = filter-append (λ (x : Entry). is_in ns x.seat) es (e ∷ []) ∙ (ap (λ (b : Bool). calls_of ns es ++ cond b (e ∷ []) []) h ∙ append-nil (calls_of ns es))

pub calls_of-none : (es : List Entry) → calls_of [] es ≡ []
calls_of-none [] = refl
calls_of-none (e ∷ es) = calls_of-none es

pub below_prefix : (n : ℕ) (xs ys : List Entry) → AreBelow n (xs ++ ys) → AreBelow n xs
below_prefix n [] ys h = tt
below_prefix n (x ∷ xs) ys h = (h.0, below_prefix n xs ys h.1)

pub below_more : (n m : ℕ) (xs : List Entry) → n ≤ m → AreBelow n xs → AreBelow m xs
below_more n m [] le h = tt
below_more n m (x ∷ xs) le h = let a = h.0 in (omega arith, below_more n m xs le h.1)

pub below_snoc : (n : ℕ) (xs : List Entry) (e : Entry) → e.seat < n → AreBelow n xs → AreBelow n (xs ++ e ∷ [])
below_snoc n [] e lt h = (lt, tt)
below_snoc n (x ∷ xs) e lt h = (h.0, below_snoc n xs e lt h.1)

-- no entry bears a number that was not given out
pub calls_of-new : (n : ℕ) (xs : List Entry) → AreBelow n xs → calls_of (n ∷ []) xs ≡ []
calls_of-new n [] h = refl
calls_of-new n (x ∷ xs) h = let a : x.seat < n = h.0 in ap (λ (b : Bool). cond (b || false) (x ∷ calls_of (n ∷ []) xs) (calls_of (n ∷ []) xs)) (ne_eqb n x.seat (λ e. omega arith)) ∙ calls_of-new n xs h.1

shuffle_one : (a b : Bool) (x : Entry) (xs ys zs : List Entry) → (a ≡ true → b ≡ true → ⊥) → Shuffled xs ys zs
    → Shuffled (cond a (x ∷ xs) xs) (cond b (x ∷ ys) ys) (cond (a || b) (x ∷ zs) zs)
unfolding Shuffled
shuffle_one true true x xs ys zs apart h = absurd (apart refl refl)
shuffle_one true false x xs ys zs apart h = inl (xs, refl, h)
shuffle_one false true x xs ys zs apart h = inr (ys, refl, h)
shuffle_one false false x xs ys zs apart h = h

pub shuffled_calls : (ms ns : List ℕ) (es : List Entry) → ((n : ℕ) → IsTrue (is_in ms n) → IsTrue (is_in ns n) → ⊥) → Shuffled (calls_of ms es) (calls_of ns es) (calls_of (ms ++ ns) es)
unfolding Shuffled
shuffled_calls ms ns [] apart = (refl, refl)
shuffled_calls ms ns (e ∷ es) apart = subst (λ (b : Bool). Shuffled (calls_of ms (e ∷ es)) (calls_of ns (e ∷ es)) (cond b (e ∷ calls_of (ms ++ ns) es) (calls_of (ms ++ ns) es))) (sym (is_in-append ms ns e.seat))
    (shuffle_one (is_in ms e.seat) (is_in ns e.seat) e (calls_of ms es) (calls_of ns es) (calls_of (ms ++ ns) es) (apart e.seat) (shuffled_calls ms ns es apart))
