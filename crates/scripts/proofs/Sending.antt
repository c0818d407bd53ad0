-- Reads and writes, one after another.
use Rattle.std.proofs.Common.{◌≡◌, ℕ, ◌+◌, ◌-◌, ◌≤◌, List, [], ◌++◌, length, take, drop, Option, Some, None, refl, sym, ap, subst, arith, ◌∙◌, append_assoc, length-drop}
use Rattle.std.proofs.lemmas.List.{append-nil, take_rest, take-append-drop}
use Rattle.std.proofs.Math.Seq.{take-add}
use Rattle.std.specs.Io.KnownBytes.{Appends, Consumes, Keeps}
use Rattle.scripts.specs.Working.Sent.{Passes, Breaks}

-- ---- nothing, and one after another

pub Appends-of-Keeps : (a b : Option (List ℕ)) → Keeps a b → Appends a b []
Appends-of-Keeps None b h = tt
Appends-of-Keeps (Some x) None h = h
Appends-of-Keeps (Some x) (Some y) h = h ∙ sym (append-nil x)

pub Appends-refl : (a : Option (List ℕ)) → Appends a a []
Appends-refl None = tt
Appends-refl (Some x) = sym (append-nil x)

pub Appends-trans : (a b c : Option (List ℕ)) (x y : List ℕ) → Appends a b x → Appends b c y → Appends a c (x ++ y)
Appends-trans None b c x y h k = tt
Appends-trans (Some p) None c x y h k = absurd h
Appends-trans (Some p) (Some q) None x y h k = k
Appends-trans (Some p) (Some q) (Some r) x y h k = k ∙ ap (λ s. s ++ y) h ∙ append_assoc p x y

pub Consumes-refl : (a : Option (List ℕ)) → Consumes a a []
Consumes-refl None = tt
Consumes-refl (Some x) = refl

pub Consumes-trans : (a b c : Option (List ℕ)) (x y : List ℕ) → Consumes a b x → Consumes b c y → Consumes a c (x ++ y)
Consumes-trans None b c x y h k = tt
Consumes-trans (Some p) None c x y h k = absurd h
Consumes-trans (Some p) (Some q) None x y h k = k
Consumes-trans (Some p) (Some q) (Some r) x y h k = h ∙ ap (λ s. x ++ s) k ∙ sym (append_assoc x y r)

-- ---- a text that is written by several writes

-- the sink takes n bytes more of the text
pub front_written : (a b c : Option (List ℕ)) (t : List ℕ) (at n : ℕ) → at ≤ length t → n ≤ length (take (length t - at) (drop at t)) → Appends a b (take at t) → Appends b c (take n (take (length t - at) (drop at t))) → (at + n ≤ length t) × Appends a c (take (at + n) t)
front_written a b c t at n le h p q =
    let e = take_rest t at in
    let h' : n ≤ length (drop at t) = subst (λ (x : List ℕ). n ≤ length x) e h in
    let q' : Appends b c (take n (drop at t)) = subst (λ (x : List ℕ). Appends b c (take n x)) e q in
    let P : List ℕ → Type 0 = λ x. Appends a c x in (
      omega (arith, simp length-drop at h'),
      subst P (sym (take-add at n t)) (Appends-trans a b c _ _ p q'),
    )

-- the sink breaks behind the bytes that it took
pub rest_lost : (a b c : Option (List ℕ)) (t : List ℕ) (at : ℕ) → Appends a b (take at t) → Keeps b c → Breaks a c t
rest_lost a b c t at p k =
    let P : List ℕ → Type 0 = λ x. Appends a c x in
    (take at t, drop at t, subst P (append-nil _) (Appends-trans a b c _ _ p (Appends-of-Keeps b c k)), sym (take-append-drop at t))

-- ---- a text behind what is kept

-- what was kept is written, and then the text
pub Passes-then-Appends : (a b c : Option (List ℕ)) (kept text kept' : List ℕ) → Passes a b kept [] → Appends b c text → kept' ≡ [] → Passes a c (kept ++ text) kept'
Passes-then-Appends a b c kept text kept' p q e =
    let all : kept ≡ p.0 = p.2 ∙ append-nil p.0 in
    (p.0 ++ text, Appends-trans a b c _ _ p.1 q, ap (λ x. x ++ text) all ∙ sym (append-nil _) ∙ ap (λ x. (p.0 ++ text) ++ x) (sym e))

-- what was kept is written, and the sink breaks within the text
pub Passes-then-Breaks : (a b c : Option (List ℕ)) (kept text : List ℕ) → Passes a b kept [] → Breaks b c text → Breaks a c (kept ++ text)
Passes-then-Breaks a b c kept text p q =
    let all : kept ≡ p.0 = p.2 ∙ append-nil p.0 in
    (p.0 ++ q.0, q.1, Appends-trans a b c _ _ p.1 q.2, ap (λ x. x ++ text) all ∙ ap (λ x. p.0 ++ x) q.3 ∙ sym (append_assoc p.0 q.0 q.1))

-- the sink breaks within what was kept, so that the text is lost too
pub Breaks-before : (a b : Option (List ℕ)) (kept text : List ℕ) → Breaks a b kept → Breaks a b (kept ++ text)
Breaks-before a b kept text q = (q.0, q.1 ++ text, q.2, ap (λ x. x ++ text) q.3 ∙ append_assoc q.0 q.1 text)
