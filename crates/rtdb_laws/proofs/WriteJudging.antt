-- Writes are judged together.
use Rattle.std.proofs.Common.{◌≡◌, ◌≢◌, ◌==◌, ℕ, Bool, true, false, cond, not, List, [], ◌∷◌, length, map, Some, None, refl, sym, ap, subst, ◌∙◌, arith}
use Rattle.std.specs.Prelude.{nat_le}
use Rattle.std.proofs.lemmas.Bool.{false≢true, leb-true, leb-false, eqb-true}
use Rattle.tree_model.specs.Path.{Path}
use Rattle.tree_model.specs.Tree.{count}
use Rattle.tree_model.specs.Put.{location, overlaps}
use Rattle.tree_model.specs.Write.{Write}
use Rattle.path_capture.specs.Pattern as parts
use Rattle.path_capture.specs.Pattern.{part_of_text}
use Rattle.rules_reader.specs.Part.{Pattern, texts}
use Rattle.rules_reader.specs.Place.{HasOneCapture}
use Rattle.rules_reader.specs.declared.kind.Kind.TheVariants.{Write as write_rules}
use Rattle.judge.specs.Question.{Question, writing}
use Rattle.judge.specs.Answers.{why_of}
use Rattle.judge.specs.Judging.{IsWriteVerdict}
use Rattle.judge.specs.declared.verdict.Named.{Named}
use Rattle.judge.specs.declared.verdict.Why.{Why}
use Rattle.judge.specs.declared.verdict.Verdict.{Verdict}
use Rattle.judge.specs.declared.verdict.Verdict.TheVariants as verdicts
use Rattle.judge.proofs.Verdicts.{writes_decided, one_verdict, texts_named}
use Rattle.rtdb_model.specs.declared.limits.TheConstants.{MAX_LOCATIONS}
use Rattle.rtdb_model.specs.declared.reply.Refusal.{Refusal}
use Rattle.rtdb_model.specs.declared.reply.Refusal.TheVariants as refusals
use Rattle.rtdb_model.specs.declared.reply.Refusal.TheVariants.{NoSession, EmptyUpdate, Overlap, Leaving, WriteDenied, ValidateDenied, TreeFull, NoMemory}
use Rattle.rtdb_model.specs.declared.reply.Reply.{Reply}
use Rattle.rtdb_model.specs.declared.reply.Reply.TheVariants.{Done, Value, News, Refused, Ran, Closed}
use Rattle.rtdb_model.specs.State.{State, is_open, is_leaving, is_present, scene_at}
use Rattle.rtdb_model.specs.Step.{Outcome, refused, unless_refused, denial, full, or_full, tree_with, verdict_on, write_refusal, written_to, makes, sets, updates}
use Rattle.rtdb_model.specs.Headline.{AreOwed, AreJudged, GrantsAll, Validates, IsLeastDenied, named_for_write, FailsFirst, Fits, Overflows, IsWriteJudged}
use Rattle.rtdb_laws.proofs.Naming.{names_owed}
use Rattle.rtdb_laws.proofs.Present.{is_here, closed_is_not_here, leaving_is_not_here, unless_leaving, by_leaving}

-- the reply comes of judging writes
abbrev pub is_judgement : Reply → Bool
is_judgement Done = true
is_judgement (Value tree) = false
is_judgement (News notices) = false
is_judgement (Ran ran) = false
is_judgement (Closed dropped) = false
is_judgement (Refused refusals.SessionOpen) = false
is_judgement (Refused refusals.TooManySessions) = false
is_judgement (Refused refusals.NoSession) = false
is_judgement (Refused refusals.NotAdmin) = false
is_judgement (Refused refusals.EmptyUpdate) = false
is_judgement (Refused refusals.Overlap) = false
is_judgement (Refused refusals.DuplicateId) = false
is_judgement (Refused refusals.TooManyListeners) = false
is_judgement (Refused refusals.NoListener) = false
is_judgement (Refused refusals.Leaving) = false
is_judgement (Refused refusals.TooManyActions) = false
is_judgement (Refused refusals.NotLeaving) = false
is_judgement (Refused (refusals.ReadDenied named)) = false
is_judgement (Refused (refusals.WriteDenied at named)) = true
is_judgement (Refused (refusals.ValidateDenied at pattern why)) = true
is_judgement (Refused refusals.TreeFull) = true
is_judgement (Refused refusals.NoMemory) = false
is_judgement (Refused refusals.Spent) = false

-- ---- lists of writes

pub some_writes : (all : List Write) → length all == 0 ≡ false → all ≢ []
some_writes all h e = false≢true (sym h ∙ ap (λ (ws : List Write). length ws == 0) e)

pub no_writes : (all : List Write) → length all == 0 ≡ true → all ≡ []
no_writes [] h = refl
no_writes (w ∷ ws) h = let z : length (w ∷ ws) ≡ 0 = eqb-true (length (w ∷ ws)) 0 h in absurd (omega arith)

module _ (old : State) (now session : ℕ) (all : List Write) where
  abbrev pub WriteJudged : Outcome → Type 0
  WriteJudged o = IsWriteJudged old now session all o.reply o.after

  abbrev pub IsVerdict : Verdict → Type 0
  IsVerdict v = IsWriteVerdict (scene_at old now session) (tree_with old now all) (map location all) v

  -- what is asked of the rules
  abbrev pub asked : Question
  asked = writing (scene_at old now session) (tree_with old now all)

  abbrev done : Outcome
  done = record { reply = Done; after = written_to old now all }

  -- ---- not judged

  -- refused before they are judged, or for want of memory
  write_stopped : (refusal : Refusal) → is_judgement (Refused refusal) ≡ false → (Refused refusal ≢ Refused NoMemory → AreJudged old session all → ⊥) → WriteJudged (refused old refusal)
  write_stopped refusal other none = record {
    makes = λ n j _ _ _. absurd (none n j);
    denies = λ n j _ _. absurd (none n j);
    fails = λ n j _ _ _ _ _. absurd (none n j);
    overflows = λ n j _ _ _. absurd (none n j);
    made = λ e. absurd (never Done e refl);
    denied = λ at named e. absurd (never (Refused (WriteDenied at named)) e refl);
    owes = λ at named e. absurd (never (Refused (WriteDenied at named)) e refl);
    failed = λ at pattern why e. absurd (never (Refused (ValidateDenied at pattern why)) e refl);
    overflowed = λ e. absurd (never (Refused TreeFull) e refl);
  }
    where
      never : (reply : Reply) → Refused refusal ≡ reply → is_judgement reply ≡ true → ⊥
      never reply e is = false≢true (sym other ∙ ap is_judgement e ∙ is)

  pub write_for_memory : WriteJudged (refused old NoMemory)
  write_for_memory = write_stopped NoMemory refl (λ n _. n refl)

  write_closed : is_open old session ≡ false → WriteJudged (refused old NoSession)
  write_closed closed = write_stopped NoSession refl (λ _ j. closed_is_not_here old session closed j.present)

  write_leaving : is_leaving old session ≡ true → WriteJudged (refused old Leaving)
  write_leaving leaves = write_stopped Leaving refl (λ _ j. leaving_is_not_here old session leaves j.present)

  -- ---- judged

  pub no_failure : Validates old now session all → (at : Path) (pattern : Pattern) (why : Why) → FailsFirst old now session all at pattern why → ⊥
  no_failure valid at pattern why f = never (sym (ap why_of (valid at pattern f.fails.fails.answer f.fails.exists f.fails.touched f.fails.fails.answers)) ∙ f.fails.fails.reason)
    where
      never : None ≡ Some why → ⊥
      never e = cc

  -- the verdict is one, and there is no other
  pub is_verdict : IsVerdict (verdict_on old now session all)
  is_verdict = writes_decided (scene_at old now session) (tree_with old now all) (map location all) (verdict_on old now session all) refl

  pub only_verdict : HasOneCapture old.rules → (w : Verdict) → IsVerdict w → w ≡ verdict_on old now session all
  only_verdict one w h = one_verdict (scene_at old now session) (tree_with old now all) (map location all) w one h

  module _ (j : AreJudged old session all) where
    write_made : GrantsAll old now session all → Validates old now session all → Fits old now all → WriteJudged done
    write_made granted valid fits = record {
      makes = λ _ _ _ _ _. (refl, refl);
      denies = λ _ _ at l. absurd (l.refused (granted at l.among));
      fails = λ _ _ _ at pattern why f. absurd (no_failure valid at pattern why f);
      overflows = λ _ _ _ _ over. absurd (omega arith);
      made = λ e. (j, granted, valid, fits, refl);
      denied = λ at named e. cc;
      owes = λ at named e. cc;
      failed = λ at pattern why e. cc;
      overflowed = λ e. cc;
    }

    write_full : GrantsAll old now session all → Validates old now session all → Overflows old now all → WriteJudged (refused old TreeFull)
    write_full granted valid over = record {
      makes = λ _ _ _ _ fits. absurd (omega arith);
      denies = λ _ _ at l. absurd (l.refused (granted at l.among));
      fails = λ _ _ _ at pattern why f. absurd (no_failure valid at pattern why f);
      overflows = λ _ _ _ _ _. refl;
      made = λ e. cc;
      denied = λ at named e. cc;
      owes = λ at named e. cc;
      failed = λ at pattern why e. cc;
      overflowed = λ e. (j, granted, valid, over);
    }

    write_denied : HasOneCapture old.rules → (at : Path) (named : List Named) → IsVerdict (verdicts.WriteDenied at named) → ((w : Verdict) → IsVerdict w → w ≡ verdicts.WriteDenied at named) → WriteJudged (refused old (WriteDenied at named))
    write_denied one at named h only = record {
      makes = λ _ _ granted _ _. absurd (h.0.refused (granted at h.0.among));
      denies = λ _ _ other l. sym (same (only (verdicts.WriteDenied other (named_for_write old now session all other)) (l, refl)));
      fails = λ _ _ granted _ _ _ _. absurd (h.0.refused (granted at h.0.among));
      overflows = λ _ _ granted _ _. absurd (h.0.refused (granted at h.0.among));
      made = λ e. cc;
      denied = λ other ns e. told other ns (place other ns e) (names other ns e);
      owes = λ other ns e. subst (λ (p : Path). AreOwed asked write_rules p ns) (place other ns e) (subst (AreOwed asked write_rules at) (sym h.1 ∙ names other ns e) (names_owed asked write_rules at one));
      failed = λ other pattern why e. cc;
      overflowed = λ e. cc;
    }
      where
        same : {p q : Path} {ns ms : List Named} → verdicts.WriteDenied p ns ≡ verdicts.WriteDenied q ms → Refused (WriteDenied p ns) ≡ Refused (WriteDenied q ms)
        same e = cc

        place : (other : Path) (ns : List Named) → Refused (WriteDenied at named) ≡ Refused (WriteDenied other ns) → at ≡ other
        place other ns e = cc

        names : (other : Path) (ns : List Named) → Refused (WriteDenied at named) ≡ Refused (WriteDenied other ns) → named ≡ ns
        names other ns e = cc

        told : (other : Path) (ns : List Named) → at ≡ other → named ≡ ns → AreJudged old session all × IsLeastDenied old now session all other × (ns ≡ named_for_write old now session all other)
        told other ns p q = (j, subst (IsLeastDenied old now session all) p h.0, sym q ∙ h.1 ∙ ap (named_for_write old now session all) p)

    write_failed : (at : Path) (pattern : parts.Pattern) (why : Why) → IsVerdict (verdicts.ValidateDenied at pattern why) → ((w : Verdict) → IsVerdict w → w ≡ verdicts.ValidateDenied at pattern why) → WriteJudged (refused old (ValidateDenied at pattern why))
    write_failed at pattern why h only = record {
      makes = λ _ _ _ valid _. absurd (no_failure valid at (texts pattern) why h.1);
      denies = λ _ _ other l. absurd (l.refused (h.0 other l.among));
      fails = λ _ _ granted other p w f. sym (same (only (verdicts.ValidateDenied other (map part_of_text p) w) (verdict_of granted other p w f)));
      overflows = λ _ _ _ valid _. absurd (no_failure valid at (texts pattern) why h.1);
      made = λ e. cc;
      denied = λ other named e. cc;
      owes = λ other named e. cc;
      failed = λ other p w e. (j, h.0, told other p w e);
      overflowed = λ e. cc;
    }
      where
        same : {p q : Path} {r s : parts.Pattern} {v w : Why} → verdicts.ValidateDenied p r v ≡ verdicts.ValidateDenied q s w → Refused (ValidateDenied p r v) ≡ Refused (ValidateDenied q s w)
        same e = cc

        verdict_of : GrantsAll old now session all → (other : Path) (p : Pattern) (w : Why) → FailsFirst old now session all other p w → IsVerdict (verdicts.ValidateDenied other (map part_of_text p) w)
        verdict_of granted other p w f = (granted, subst (λ (q : Pattern). FailsFirst old now session all other q w) (sym (texts_named p)) f, ap (map part_of_text) (texts_named p))

        back : (other : Path) (p : parts.Pattern) (w : Why) → Refused (ValidateDenied at pattern why) ≡ Refused (ValidateDenied other p w) → (at ≡ other) × (pattern ≡ p) × (why ≡ w)
        back other p w e = (cc, cc, cc)

        told : (other : Path) (p : parts.Pattern) (w : Why) → Refused (ValidateDenied at pattern why) ≡ Refused (ValidateDenied other p w) → FailsFirst old now session all other (texts p) w
        told other p w e = let b = back other p w e in subst (λ (x : Path). FailsFirst old now session all x (texts p) w) b.0 (subst (λ (x : parts.Pattern). FailsFirst old now session all at (texts x) w) b.1 (subst (λ (x : Why). FailsFirst old now session all at (texts pattern) x) b.2 h.1))

    by_room : GrantsAll old now session all → Validates old now session all → WriteJudged (unless_refused old (full (tree_with old now all)) done)
    by_room granted valid = within (nat_le (count (tree_with old now all)) MAX_LOCATIONS) refl
      where
        within : (b : Bool) → nat_le (count (tree_with old now all)) MAX_LOCATIONS ≡ b → WriteJudged (unless_refused old (cond b None (Some TreeFull)) done)
        within true e = write_made granted valid (leb-true (count (tree_with old now all)) MAX_LOCATIONS e)
        within false e = write_full granted valid (leb-false (count (tree_with old now all)) MAX_LOCATIONS e)

    pub by_verdict : HasOneCapture old.rules → (v : Verdict) → IsVerdict v → ((w : Verdict) → IsVerdict w → w ≡ v) → WriteJudged (unless_refused old (or_full (denial v) (tree_with old now all)) done)
    by_verdict one verdicts.Granted h only = by_room h.0 h.1
    by_verdict one (verdicts.ReadDenied named) h only = absurd h
    by_verdict one (verdicts.WriteDenied at named) h only = write_denied one at named h only
    by_verdict one (verdicts.ValidateDenied at pattern why) h only = write_failed at pattern why h only

    pub makes_judged : HasOneCapture old.rules → WriteJudged (makes old now session all)
    unfolding write_refusal
    makes_judged one = by_verdict one (verdict_on old now session all) is_verdict (only_verdict one)

-- ---- the events

pub set_judged : (old : State) (now session : ℕ) (write : Write) → HasOneCapture old.rules → WriteJudged old now session (write ∷ []) (unless_leaving old session (sets old now session write))
set_judged old now session write one =
    by_leaving (WriteJudged old now session (write ∷ [])) old session (sets old now session write)
    (write_leaving old now session (write ∷ []))
    (λ stays. by_session stays (is_open old session) refl)
  where
    by_session : is_leaving old session ≡ false → (b : Bool) → is_open old session ≡ b → WriteJudged old now session (write ∷ []) (cond (not b) (refused old NoSession) (makes old now session (write ∷ [])))
    by_session stays true e = makes_judged old now session (write ∷ []) record { present = is_here old session e stays; some = λ f. cc; apart = refl } one
    by_session stays false e = write_closed old now session (write ∷ []) e

pub update_judged : (old : State) (now session : ℕ) (all : List Write) → HasOneCapture old.rules → WriteJudged old now session all (unless_leaving old session (updates old now session all))
update_judged old now session all one =
    by_leaving (WriteJudged old now session all) old session (updates old now session all)
    (write_leaving old now session all)
    (λ stays. by_session stays (is_open old session) refl)
  where
    by_overlap : is_present old session ≡ true → length all == 0 ≡ false → (b : Bool) → overlaps all ≡ b → WriteJudged old now session all (cond b (refused old Overlap) (makes old now session all))
    by_overlap e f true g = write_stopped old now session all Overlap refl (λ _ j. false≢true (sym j.apart ∙ g))
    by_overlap e f false g = makes_judged old now session all record { present = e; some = some_writes all f; apart = g } one

    by_length : is_present old session ≡ true → (b : Bool) → length all == 0 ≡ b → WriteJudged old now session all (cond b (refused old EmptyUpdate) (cond (overlaps all) (refused old Overlap) (makes old now session all)))
    by_length e true f = write_stopped old now session all EmptyUpdate refl (λ _ j. j.some (no_writes all f))
    by_length e false f = by_overlap e f (overlaps all) refl

    by_session : is_leaving old session ≡ false → (b : Bool) → is_open old session ≡ b → WriteJudged old now session all (cond (not b) (refused old NoSession) (cond (length all == 0) (refused old EmptyUpdate) (cond (overlaps all) (refused old Overlap) (makes old now session all))))
    by_session stays true e = by_length (is_here old session e stays) (length all == 0) refl
    by_session stays false e = write_closed old now session all e
