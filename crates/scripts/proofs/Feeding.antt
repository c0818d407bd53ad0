-- Where a script stands after a piece of the input.
use Rattle.std.proofs.Common.{◌≡◌, ◌≢◌, ℕ, ◌+◌, length, arith, Bool, true, false, List, [], ◌∷◌, ◌++◌, Option, refl, sym, ap, subst, ◌∙◌, append_assoc}
use Rattle.std.specs.Prelude.{◌==◌}
use Rattle.std.specs.Io.KnownBytes.{Appends}
use Rattle.std.proofs.lemmas.List.{append-nil}
use Rattle.std.proofs.lemmas.List.Elements.{All-append, All-nil}
use Rattle.std.proofs.lemmas.List.Splits.{length-slice_split, slice_split_at, slice_split_none}
use Rattle.scripts.specs.declared.desk.Stop.{Stop}
use Rattle.scripts.specs.declared.desk.Stop.TheVariants as stops
use Rattle.scripts.specs.Lines.{cut, non_blank, is_blank}
use Rattle.scripts.specs.Said.{Phase, unopened, refused, IsWritten}
use Rattle.scripts.specs.Working.Parts.{front, IsPlain, KeepsFront, ShowsFront}
use Rattle.scripts.specs.Working.Sent.{tells, Passes, Breaks}
use Rattle.scripts.specs.Working.Follow.{HasAnswered, StopsAfter, Follows, StopsWithin, IsFrontAnswered, AnswersFront, FallsShort}
use Rattle.scripts.proofs.Keeping.{nil_of_front}
use Rattle.scripts.proofs.Sending.{Appends-trans}

-- ---- cutting

pub cut-plain : (rest : List ℕ) → IsPlain rest → cut rest ≡ rest ∷ []
cut-plain rest h = slice_split_none (λ b. b == 10) rest h

cut-line : (line more : List ℕ) → IsPlain line → cut (line ++ 10 ∷ more) ≡ line ∷ cut more
cut-line line more h = slice_split_at (λ b. b == 10) line 10 more h refl

some_line : (lines : List (List ℕ)) (n : ℕ) → length lines ≡ n + 1 → (line : List ℕ) × (tail : List (List ℕ)) × (lines ≡ line ∷ tail)
some_line [] n e = absurd (omega arith)
some_line (line ∷ tail) n e = (line, tail, refl)

-- there is a line in each text
cut-some : (text : List ℕ) → (line : List ℕ) × (tail : List (List ℕ)) × (cut text ≡ line ∷ tail)
cut-some text = some_line (cut text) _ (length-slice_split (λ b. b == 10) text)

-- ---- one step further

pub Follows-nothing : (phase : Phase) (held : List ℕ) (blank : Bool) (kept : List ℕ) → phase ≡ unopened → KeepsFront held blank [] → kept ≡ [] → Follows phase held blank kept [] []
Follows-nothing phase held blank kept p h e = record {
  lines = [];
  rest = [];
  cuts = λ more. refl;
  plain = All-nil (λ b. (b == 10) ≡ false);
  holds = h;
  stands = (p, e);
}

module _ {phase : Phase} {held : List ℕ} {blank : Bool} {kept taken sent : List ℕ} (f : Follows phase held blank kept taken sent) where
  cuts-append : (part more : List ℕ) → cut ((taken ++ part) ++ more) ≡ f.lines ++ cut ((f.rest ++ part) ++ more)
  cuts-append part more = ap cut (append_assoc taken part more) ∙ f.cuts (part ++ more) ∙ ap (λ x. f.lines ++ cut x) (sym (append_assoc f.rest part more))

  -- a part with no line feed comes
  pub Follows-part : {held' : List ℕ} {blank' : Bool} (part : List ℕ) → IsPlain part → KeepsFront held' blank' (f.rest ++ part) → Follows phase held' blank' kept (taken ++ part) sent
  Follows-part part plain holds = record {
    lines = f.lines;
    rest = f.rest ++ part;
    cuts = cuts-append part;
    plain = All-append (λ b. (b == 10) ≡ false) f.rest part f.plain plain;
    holds = holds;
    stands = f.stands;
  }

  -- a part and a line feed come
  cuts-line : (part more : List ℕ) → IsPlain part → cut ((taken ++ (part ++ 10 ∷ [])) ++ more) ≡ (f.lines ++ (f.rest ++ part) ∷ []) ++ cut more
  cuts-line part more plain =
      ap cut (append_assoc taken (part ++ 10 ∷ []) more ∙ ap (λ x. taken ++ x) (append_assoc part (10 ∷ []) more))
      ∙ f.cuts (part ++ 10 ∷ more)
      ∙ ap (λ x. f.lines ++ cut x) (sym (append_assoc f.rest part (10 ∷ more)))
      ∙ ap (λ x. f.lines ++ x) (cut-line (f.rest ++ part) more (All-append (λ b. (b == 10) ≡ false) f.rest part f.plain plain))
      ∙ sym (append_assoc f.lines ((f.rest ++ part) ∷ []) (cut more))

  pub Follows-line : {phase' : Phase} {held' : List ℕ} {blank' : Bool} {kept' : List ℕ} (old new : Option (List ℕ)) (part : List ℕ) → IsPlain part → KeepsFront held' blank' [] → HasAnswered (f.lines ++ (f.rest ++ part) ∷ []) phase' old new sent kept' → (more : List ℕ) × Appends old new more × Follows phase' held' blank' kept' (taken ++ (part ++ 10 ∷ [])) (sent ++ more)
  Follows-line old new part plain holds g = (
    g.0,
    g.1,
    record {
      lines = f.lines ++ (f.rest ++ part) ∷ [];
      rest = [];
      cuts = λ more. cuts-line part more plain;
      plain = All-nil (λ b. (b == 10) ≡ false);
      holds = holds;
      stands = g.2;
    },
  )

  -- the script stops at the line that ends there
  pub StopsWithin-line : (stop : Stop) (old new : Option (List ℕ)) (failed : Bool) (kept' part : List ℕ) → IsPlain part → StopsAfter stop (tells old new failed) kept' f.lines (f.rest ++ part) sent → StopsWithin stop (tells old new failed) kept' (taken ++ (part ++ 10 ∷ [])) sent
  StopsWithin-line stops.BadHeader old new failed kept' part plain s = (s.0, s.1, λ more. (f.lines ++ (f.rest ++ part) ∷ [], cut more, cuts-line part more plain, s.2))
  StopsWithin-line stops.WriteFault old new failed kept' part plain s = (s.0, s.1, s.2, s.3.0, s.3.1, λ more. (f.lines ++ (f.rest ++ part) ∷ [], cut more, cuts-line part more plain, s.3.2))
  StopsWithin-line stops.NoMemory old new failed kept' part plain s = (s.0, s.2.0, s.2.1, (s.1, λ more. (f.lines, f.rest ++ part, cut more, cuts-line part more plain ∙ append_assoc f.lines ((f.rest ++ part) ∷ []) (cut more), s.2.2)))

  -- there is no memory for the part
  pub StopsWithin-part : phase ≢ refused → (old new : Option (List ℕ)) (failed : Bool) (part : List ℕ) → Appends old new [] → StopsWithin stops.NoMemory (tells old new failed) kept (taken ++ part) sent
  StopsWithin-part going old new failed part a = (
    phase,
    [],
    a,
    (
      going,
      λ more.
          let some = cut-some ((f.rest ++ part) ++ more) in
          (f.lines, some.0, some.1, cuts-append part more ∙ ap (λ x. f.lines ++ x) some.2, subst (λ (x : List ℕ). IsWritten (non_blank f.lines) phase x) (ap (λ x. x ++ kept) (sym (append-nil sent))) f.stands),
    ),
  )

  -- nothing of a line is held, so that the part is all of it
  pub rest-nil : held ≡ [] → f.rest ≡ []
  rest-nil e = nil_of_front f.rest (sym e ∙ f.holds.0)

  pub KeepsFront-nil : held ≡ [] → KeepsFront held blank []
  KeepsFront-nil e = subst (λ (x : List ℕ). KeepsFront held blank x) (rest-nil e) f.holds

  pub ShowsFront-part : (part : List ℕ) (blank' : Bool) → held ≡ [] → blank' ≡ is_blank part → ShowsFront part blank' (f.rest ++ part)
  ShowsFront-part part blank' e b =
      let same : part ≡ f.rest ++ part = ap (λ x. x ++ part) (sym (rest-nil e)) in
      (ap front same, b ∙ ap is_blank same)

-- ---- one part of a piece after another

-- what was done of a piece grows by a line
pub piece-append : (piece done rest part after : List ℕ) → piece ≡ done ++ rest → rest ≡ part ++ 10 ∷ after → piece ≡ (done ++ (part ++ 10 ∷ [])) ++ after
piece-append piece done rest part after p q = p ∙ ap (λ x. done ++ x) (q ∙ sym (append_assoc part (10 ∷ []) after)) ∙ sym (append_assoc done (part ++ 10 ∷ []) after)

pub Follows-at : {phase : Phase} {held : List ℕ} {blank : Bool} {kept : List ℕ} (taken taken' sent sent' : List ℕ) → Follows phase held blank kept taken sent → taken ≡ taken' → sent ≡ sent' → Follows phase held blank kept taken' sent'
Follows-at {phase} {held} {blank} {kept} taken taken' sent sent' f e d =
    subst (λ (s : List ℕ). Follows phase held blank kept taken' s) d (subst (λ (t : List ℕ). Follows phase held blank kept t sent) e f)

pub Follows-after : {phase : Phase} {held : List ℕ} {blank : Bool} {kept : List ℕ} (a b c : Option (List ℕ)) (taken done part sent more : List ℕ) → Appends a b more → (m : List ℕ) × Appends b c m × Follows phase held blank kept ((taken ++ done) ++ part) ((sent ++ more) ++ m) → (m : List ℕ) × Appends a c m × Follows phase held blank kept (taken ++ (done ++ part)) (sent ++ m)
Follows-after a b c taken done part sent more p r =
    (more ++ r.0, Appends-trans a b c more r.0 p r.1, Follows-at _ _ _ _ r.2 (append_assoc taken done part) (append_assoc sent more r.0))

AnswersFront-at : (taken part whole : List ℕ) (phase : Phase) (out out' : List ℕ) → taken ++ part ≡ whole → out ≡ out' → AnswersFront taken phase out → AnswersFront whole phase out'
AnswersFront-at taken part whole phase out out' e d h = λ more.
    subst (λ (o : List ℕ). IsFrontAnswered (whole ++ more) phase o) d (subst (λ (t : List ℕ). IsFrontAnswered t phase out) (sym (append_assoc taken part more) ∙ ap (λ t. t ++ more) e) (h (part ++ more)))

FallsShort-at : (taken part whole : List ℕ) (phase : Phase) (out out' : List ℕ) → taken ++ part ≡ whole → out ≡ out' → FallsShort taken phase out → FallsShort whole phase out'
FallsShort-at taken part whole phase out out' e d h = (
  h.0,
  λ more.
      let w = h.1 (part ++ more) in
      (w.0, w.1, w.2, ap (λ t. cut (t ++ more)) (sym e) ∙ ap cut (append_assoc taken part more) ∙ w.3, subst (λ (o : List ℕ). IsWritten (non_blank w.0) phase o) d w.4),
)

regrouped : (sent more m kept : List ℕ) → ((sent ++ more) ++ m) ++ kept ≡ (sent ++ (more ++ m)) ++ kept
regrouped sent more m kept = ap (λ x. x ++ kept) (append_assoc sent more m)

pub StopsWithin-after : (stop : Stop) (a b c : Option (List ℕ)) (failed : Bool) (kept' taken part whole sent more : List ℕ) → taken ++ part ≡ whole → Appends a b more → StopsWithin stop (tells b c failed) kept' taken (sent ++ more) → StopsWithin stop (tells a c failed) kept' whole sent
StopsWithin-after stops.BadHeader a b c failed kept' taken part whole sent more e p s =
    (more ++ s.0, Appends-trans a b c more s.0 p s.1, AnswersFront-at taken part whole refused _ _ e (regrouped sent more s.0 kept') s.2)
StopsWithin-after stops.WriteFault a b c failed kept' taken part whole sent more e p s =
    (s.0, s.1, s.2, more ++ s.3, Appends-trans a b c more s.3 p s.4, AnswersFront-at taken part whole s.1 _ _ e (regrouped sent more s.3 s.2) s.5)
StopsWithin-after stops.NoMemory a b c failed kept' taken part whole sent more e p s =
    (s.0, more ++ s.1, Appends-trans a b c more s.1 p s.2, FallsShort-at taken part whole s.0 _ _ e (regrouped sent more s.1 kept') s.3)

pub StopsWithin-at : (old new : Option (List ℕ)) (failed : Bool) (kept taken sent : List ℕ) (stop stop' : Stop) → stop ≡ stop' → StopsWithin stop (tells old new failed) kept taken sent → StopsWithin stop' (tells old new failed) kept taken sent
StopsWithin-at old new failed kept taken sent stop stop' e s = subst (λ (x : Stop). StopsWithin x (tells old new failed) kept taken sent) e s

-- ---- the lines that are answered

pub AnswersFront-of-Follows : {phase : Phase} {held : List ℕ} {blank : Bool} {kept taken sent : List ℕ} → Follows phase held blank kept taken sent → AnswersFront taken phase (sent ++ kept)
AnswersFront-of-Follows f = λ more. (f.lines, cut (f.rest ++ more), f.cuts more, f.stands)

pub AnswersFront-of-FallsShort : (taken : List ℕ) (phase : Phase) (out : List ℕ) → FallsShort taken phase out → AnswersFront taken phase out
AnswersFront-of-FallsShort taken phase out h = λ more. let w = h.1 more in (w.0, w.1 ∷ w.2, w.3, w.4)

-- ---- what is kept is handed on

-- after what was written before, all that was kept is written
pub Follows-handed : {phase : Phase} {held : List ℕ} {blank : Bool} {kept kept' taken : List ℕ} (sent more : List ℕ) (a b c : Option (List ℕ)) → Appends a b more → Follows phase held blank kept taken (sent ++ more) → Passes b c kept [] → kept' ≡ [] → (m : List ℕ) × Appends a c m × Follows phase held blank kept' taken (sent ++ m)
Follows-handed {phase} {held} {blank} {kept} {kept'} {taken} sent more a b c p f s none = (
  more ++ s.0,
  Appends-trans a b c more s.0 p s.1,
  record {
    lines = f.lines;
    rest = f.rest;
    cuts = f.cuts;
    plain = f.plain;
    holds = f.holds;
    stands = subst (λ (o : List ℕ). IsWritten (non_blank f.lines) phase o) same f.stands;
  },
)
  where
    same : (sent ++ more) ++ kept ≡ (sent ++ (more ++ s.0)) ++ kept'
    same = ap (λ x. (sent ++ more) ++ x) (s.2 ∙ append-nil s.0) ∙ append_assoc sent more s.0 ∙ sym (append-nil _) ∙ ap (λ x. (sent ++ (more ++ s.0)) ++ x) (sym none)

-- the sink breaks meanwhile
pub StopsWithin-handed : {phase : Phase} {held : List ℕ} {blank : Bool} {kept taken : List ℕ} (sent more : List ℕ) (a b c : Option (List ℕ)) (failed : Bool) (kept' : List ℕ) → Appends a b more → Follows phase held blank kept taken (sent ++ more) → Breaks b c kept → failed ≡ true → StopsWithin stops.WriteFault (tells a c failed) kept' taken sent
StopsWithin-handed {phase} {held} {blank} {kept} {taken} sent more a b c failed kept' p f s e =
    (e, phase, s.1, more ++ s.0, Appends-trans a b c more s.0 p s.2, λ next. subst (λ (o : List ℕ). IsFrontAnswered (taken ++ next) phase o) same (AnswersFront-of-Follows f next))
  where
    same : (sent ++ more) ++ kept ≡ (sent ++ (more ++ s.0)) ++ s.1
    same = ap (λ x. (sent ++ more) ++ x) s.3 ∙ sym (append_assoc (sent ++ more) s.0 s.1) ∙ ap (λ x. x ++ s.1) (append_assoc sent more s.0)
