-- How a script ends, from where it stood when no more was read.
use Rattle.std.proofs.Common.{◌≡◌, ◌≢◌, ℕ, ◌≤◌, ◌^◌, Bool, true, List, [], ◌∷◌, ◌++◌, Option, Some, None, ◌⊎◌, refl, sym, ap, subst, inl, inr, ◌∙◌, append_assoc}
use Rattle.std.specs.Io.KnownBytes.{Appends, Consumes, IsAtEnd}
use Rattle.std.proofs.lemmas.List.{append-nil}
use Rattle.scripts.specs.declared.desk.Stop.{Stop}
use Rattle.scripts.specs.declared.script.Script.{Script}
use Rattle.scripts.specs.declared.script.ScriptEnd.{ScriptEnd}
use Rattle.scripts.specs.declared.script.ScriptEnd.TheVariants as ends
use Rattle.scripts.specs.Lines.{cut, non_blank}
use Rattle.scripts.specs.Said.{Phase, unopened, refused, IsWritten, Said}
use Rattle.scripts.specs.Working.Sent.{tells, Breaks}
use Rattle.scripts.specs.Working.Follow.{HasAnswered, StopsAfter, Follows, IsFrontAnswered, AnswersFront, FallsShort, Halts, Sends}
use Rattle.scripts.specs.Ends.{IsRest, SourceTells, Ends}
use Rattle.scripts.proofs.Sending.{Appends-refl, Appends-trans, Consumes-refl}
use Rattle.scripts.proofs.Standing.{non_blank-append, IsWritten-refused}
use Rattle.scripts.proofs.Feeding.{cut-plain, AnswersFront-of-Follows, AnswersFront-of-FallsShort}
use Rattle.scripts.proofs.Going.{IsWritten-more}

-- ---- of the whole input

-- the first lines of the whole input are answered
abbrev Begins : Option (List ℕ) → List ℕ → Phase → List ℕ → Type 0
Begins left taken phase out = (rest : List ℕ) × IsRest left rest × IsFrontAnswered (taken ++ rest) phase out

Begins-of-AnswersFront : (left : Option (List ℕ)) (taken : List ℕ) (phase : Phase) (out : List ℕ) → AnswersFront taken phase out → Begins left taken phase out
Begins-of-AnswersFront None taken phase out h = ([], tt, h [])
Begins-of-AnswersFront (Some rest) taken phase out h = (rest, refl, h rest)

Begins-at-end : (left : Option (List ℕ)) (taken : List ℕ) (phase : Phase) (out : List ℕ) → IsAtEnd left → IsFrontAnswered taken phase out → Begins left taken phase out
Begins-at-end None taken phase out e f = ([], tt, subst (λ (x : List ℕ). IsFrontAnswered x phase out) (sym (append-nil taken)) f)
Begins-at-end (Some rest) taken phase out e f = (rest, refl, subst (λ (x : List ℕ). IsFrontAnswered x phase out) (sym (ap (λ r. taken ++ r) e ∙ append-nil taken)) f)

-- the other lines have an answer, so that what was written is the front of what is said to all
Said-lost : (left : Option (List ℕ)) (taken : List ℕ) (phase : Phase) (out lost : List ℕ) → Begins left taken phase (out ++ lost) → (rest : List ℕ) × IsRest left rest × (p : Phase) × (l : List ℕ) × Said (taken ++ rest) p (out ++ l)
Said-lost left taken phase out lost h =
    let f : IsFrontAnswered (taken ++ h.0) phase (out ++ lost) = h.2 in
    let all = IsWritten-more (non_blank f.0) (non_blank f.1) phase (out ++ lost) f.3 in (
      h.0,
      h.1,
      all.0,
      lost ++ all.1,
      subst (λ (o : List ℕ). Said (taken ++ h.0) all.0 o) (append_assoc out lost all.1) (subst (λ (x : List (List ℕ)). IsWritten x all.0 ((out ++ lost) ++ all.1)) (sym (ap non_blank f.2 ∙ non_blank-append f.0 f.1)) all.2),
    )

Ends-lost : (source : SourceTells) (failed : Bool) (taken : List ℕ) (phase : Phase) (out lost : List ℕ) → failed ≡ true → Begins source.left taken phase (out ++ lost) → Ends ends.WriteFault taken source failed out
Ends-lost source failed taken phase out lost e h = let all = Said-lost source.left taken phase out lost h in (e, all.0, all.1, all.2, all.3, all.4)

-- no line after a refused header is answered
Said-refused : (input : List ℕ) (out : List ℕ) → IsFrontAnswered input refused out → Said input refused out
Said-refused input out f =
    subst (λ (x : List (List ℕ)). IsWritten x refused out) (sym (ap non_blank f.2 ∙ non_blank-append f.0 f.1)) (IsWritten-refused (non_blank f.0) (non_blank f.1) out f.3)

Said-refused-left : (left : Option (List ℕ)) (taken out : List ℕ) → Begins left taken refused out → (rest : List ℕ) × IsRest left rest × Said (taken ++ rest) refused out
Said-refused-left left taken out h = (h.0, h.1, Said-refused (taken ++ h.0) out h.2)

unopened_goes_on : unopened ≢ refused
unopened_goes_on e = cc

-- ---- what is kept is written at the end, or the sink breaks

Ends-by-Sends : (end result : ScriptEnd) (a b c : Option (List ℕ)) (failed : Bool) (source : SourceTells) (taken : List ℕ) (sent more kept : List ℕ) (phase : Phase) → Appends a b more → Sends end result b c failed kept → Begins source.left taken phase ((sent ++ more) ++ kept) → ((k : Bool) → Ends end taken source k ((sent ++ more) ++ kept)) → (m : List ℕ) × Appends a c m × Ends result taken source failed (sent ++ m)
Ends-by-Sends end result a b c failed source taken sent more kept phase p (inl s) f e = (
  more ++ kept,
  Appends-trans a b c more kept p s.1,
  subst (λ (o : List ℕ). Ends result taken source failed o) (append_assoc sent more kept) (subst (λ (x : ScriptEnd). Ends x taken source failed ((sent ++ more) ++ kept)) (sym s.0) (e failed)),
)
Ends-by-Sends end result a b c failed source taken sent more kept phase p (inr s) f e =
    let broken : Breaks b c kept = s.2 in
    let out : (sent ++ more) ++ kept ≡ (sent ++ (more ++ broken.0)) ++ broken.1 =
    ap (λ x. (sent ++ more) ++ x) broken.3 ∙ sym (append_assoc (sent ++ more) broken.0 broken.1) ∙ ap (λ x. x ++ broken.1) (append_assoc sent more broken.0) in (
      more ++ broken.0,
      Appends-trans a b c more broken.0 p broken.2,
      subst (λ (x : ScriptEnd). Ends x taken source failed (sent ++ (more ++ broken.0))) (sym s.0) (Ends-lost source failed taken phase (sent ++ (more ++ broken.0)) broken.1 s.1 (subst (λ (o : List ℕ). Begins source.left taken phase o) out f)),
    )

-- nothing was written before that
Ends-by-Sends-alone : (end result : ScriptEnd) (a c : Option (List ℕ)) (failed : Bool) (source : SourceTells) (taken : List ℕ) (sent kept : List ℕ) (phase : Phase) → Sends end result a c failed kept → Begins source.left taken phase (sent ++ kept) → ((k : Bool) → Ends end taken source k (sent ++ kept)) → (m : List ℕ) × Appends a c m × Ends result taken source failed (sent ++ m)
Ends-by-Sends-alone end result a c failed source taken sent kept phase s f e =
    let same : sent ++ kept ≡ (sent ++ []) ++ kept = ap (λ x. x ++ kept) (sym (append-nil sent)) in
    Ends-by-Sends end result a a c failed source taken sent [] kept phase (Appends-refl a) s (subst (λ (o : List ℕ). Begins source.left taken phase o) same f) (λ k. subst (λ (o : List ℕ). Ends end taken source k o) same (e k))

-- ---- after the last line, where the input is at its end

cut-taken : {phase : Phase} {held : List ℕ} {blank : Bool} {kept taken sent : List ℕ} → (f : Follows phase held blank kept taken sent) → cut taken ≡ f.lines ++ f.rest ∷ []
cut-taken {taken = taken} f = ap cut (sym (append-nil taken)) ∙ f.cuts [] ∙ ap (λ x. f.lines ++ cut x) (append-nil f.rest) ∙ ap (λ x. f.lines ++ x) (cut-plain f.rest f.plain)

module _ (result : ScriptEnd) (a b c : Option (List ℕ)) (failed : Bool) (source : SourceTells) {phase : Phase} {held : List ℕ} {blank : Bool} {kept taken sent : List ℕ} (f : Follows phase held blank kept taken sent) (at_end : IsAtEnd source.left) where
  -- the last line is one of those that are answered
  Said-last : (phase' : Phase) (out : List ℕ) → IsWritten (non_blank (f.lines ++ f.rest ∷ [])) phase' out → Said taken phase' out
  Said-last phase' out s = subst (λ (x : List (List ℕ)). IsWritten (non_blank x) phase' out) (sym (cut-taken f)) s

  IsFrontAnswered-last : (phase' : Phase) (out : List ℕ) → IsWritten (non_blank (f.lines ++ f.rest ∷ [])) phase' out → IsFrontAnswered taken phase' out
  IsFrontAnswered-last phase' out s = (f.lines ++ f.rest ∷ [], [], cut-taken f ∙ sym (append-nil (f.lines ++ f.rest ∷ [])), s)

  Begins-last : (phase' : Phase) (out : List ℕ) → IsWritten (non_blank (f.lines ++ f.rest ∷ [])) phase' out → Begins source.left taken phase' out
  Begins-last phase' out s = Begins-at-end source.left taken phase' out at_end (IsFrontAnswered-last phase' out s)

  pub Ends-last : (phase' : Phase) → phase' ≢ refused → (kept' : List ℕ) → HasAnswered (f.lines ++ f.rest ∷ []) phase' a b sent kept' → Sends ends.Finished result b c failed kept' → (m : List ℕ) × Appends a c m × Ends result taken source failed (sent ++ m)
  Ends-last phase' going kept' g s =
      Ends-by-Sends ends.Finished result a b c failed source taken sent g.0 kept' phase' g.1 s (Begins-last phase' _ g.2) (λ k. (at_end, phase', going, Said-last phase' _ g.2))

  pub Ends-last-refused : (kept' : List ℕ) → HasAnswered (f.lines ++ f.rest ∷ []) refused a b sent kept' → Sends ends.BadHeader result b c failed kept' → (m : List ℕ) × Appends a c m × Ends result taken source failed (sent ++ m)
  Ends-last-refused kept' g s =
      let begins = Begins-last refused _ g.2 in
      Ends-by-Sends ends.BadHeader result a b c failed source taken sent g.0 kept' refused g.1 s begins (λ k. Said-refused-left source.left taken _ begins)

  pub Ends-last-no-memory : (phase' : Phase) → phase' ≢ refused → (kept' : List ℕ) → HasAnswered f.lines phase' a b sent kept' → Sends ends.NoMemory result b c failed kept' → (m : List ℕ) × Appends a c m × Ends result taken source failed (sent ++ m)
  Ends-last-no-memory phase' going kept' g s =
      let fronts : IsFrontAnswered taken phase' ((sent ++ g.0) ++ kept') = (f.lines, f.rest ∷ [], cut-taken f, g.2) in
      Ends-by-Sends ends.NoMemory result a b c failed source taken sent g.0 kept' phase' g.1 s (Begins-at-end source.left taken phase' _ at_end fronts) (λ k. (phase', going, f.lines, f.rest, [], cut-taken f, g.2))

  pub Ends-last-broken : (phase' : Phase) (lost : List ℕ) → failed ≡ true → HasAnswered (f.lines ++ f.rest ∷ []) phase' a c sent lost → (m : List ℕ) × Appends a c m × Ends ends.WriteFault taken source failed (sent ++ m)
  Ends-last-broken phase' lost e g = (g.0, g.1, Ends-lost source failed taken phase' (sent ++ g.0) lost e (Begins-last phase' _ g.2))

-- ---- where no line is left to be answered

module _ (result : ScriptEnd) (a c : Option (List ℕ)) (failed : Bool) (source : SourceTells) where
  pub Ends-refused : (kept taken sent : List ℕ) → AnswersFront taken refused (sent ++ kept) → Sends ends.BadHeader result a c failed kept → (m : List ℕ) × Appends a c m × Ends result taken source failed (sent ++ m)
  Ends-refused kept taken sent h s =
      let begins = Begins-of-AnswersFront source.left taken refused _ h in
      Ends-by-Sends-alone ends.BadHeader result a c failed source taken sent kept refused s begins (λ k. Said-refused-left source.left taken _ begins)

  pub Ends-no-memory : (phase : Phase) (kept taken sent : List ℕ) → FallsShort taken phase (sent ++ kept) → Sends ends.NoMemory result a c failed kept → (m : List ℕ) × Appends a c m × Ends result taken source failed (sent ++ m)
  Ends-no-memory phase kept taken sent h s =
      let w = h.1 [] in
      Ends-by-Sends-alone ends.NoMemory result a c failed source taken sent kept phase s (Begins-of-AnswersFront source.left taken phase _ (AnswersFront-of-FallsShort taken phase _ h)) (λ k. (phase, h.0, w.0, w.1, w.2, ap cut (sym (append-nil taken)) ∙ w.3, w.4))

  pub Ends-read-fault : {phase : Phase} {held : List ℕ} {blank : Bool} {kept taken sent : List ℕ} → phase ≢ refused → ((source.failed ≡ true) ⊎ (2 ^ 40 ≤ source.reads)) → Follows phase held blank kept taken sent → Sends ends.ReadFault result a c failed kept → (m : List ℕ) × Appends a c m × Ends result taken source failed (sent ++ m)
  Ends-read-fault {phase} {held} {blank} {kept} {taken} {sent} going why f s =
      Ends-by-Sends-alone ends.ReadFault result a c failed source taken sent kept phase s (Begins-of-AnswersFront source.left taken phase _ (AnswersFront-of-Follows f)) (λ k. (why, phase, going, f.lines, f.rest, cut-taken f, f.stands))

-- the sink broke before, and nothing more is written
pub Ends-broken : (a : Option (List ℕ)) (failed : Bool) (source : SourceTells) (phase : Phase) (lost taken sent : List ℕ) → failed ≡ true → AnswersFront taken phase (sent ++ lost) → (m : List ℕ) × Appends a a m × Ends ends.WriteFault taken source failed (sent ++ m)
Ends-broken a failed source phase lost taken sent e h =
    ([], Appends-refl a, Ends-lost source failed taken phase (sent ++ []) lost e (subst (λ (o : List ℕ). Begins source.left taken phase o) (ap (λ x. x ++ lost) (sym (append-nil sent))) (Begins-of-AnswersFront source.left taken phase _ h)))

-- nothing was read
pub Ends-before : (source : SourceTells) (b : Option (List ℕ)) (failed : Bool) → (taken out : List ℕ) × Consumes source.left source.left taken × Appends b b out × Ends ends.NoMemory taken source failed out
Ends-before source b failed = ([], [], Consumes-refl source.left, Appends-refl b, (unopened, unopened_goes_on, [], [], [], refl, (refl, refl)))

-- ---- the same by another name

pub Halts-at : (end end' : ScriptEnd) (source : SourceTells) (sink_failed : Bool) (script : Script) (taken sent : List ℕ) → end ≡ end' → Halts end source sink_failed script taken sent → Halts end' source sink_failed script taken sent
Halts-at end end' source sink_failed script taken sent e h = subst (λ (x : ScriptEnd). Halts x source sink_failed script taken sent) e h

pub StopsAfter-at : (old new : Option (List ℕ)) (failed : Bool) (kept : List ℕ) (lines : List (List ℕ)) (line sent : List ℕ) (stop stop' : Stop) → stop ≡ stop' → StopsAfter stop (tells old new failed) kept lines line sent → StopsAfter stop' (tells old new failed) kept lines line sent
StopsAfter-at old new failed kept lines line sent stop stop' e s = subst (λ (x : Stop). StopsAfter x (tells old new failed) kept lines line sent) e s
