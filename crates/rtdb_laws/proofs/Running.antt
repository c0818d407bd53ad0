-- The run of the first action of a session is judged.
use Rattle.std.proofs.Common.{◌≡◌, ◌≢◌, ℕ, Bool, true, false, cond, not, List, [], ◌∷◌, Option, Some, None, refl, sym, ap, subst, ◌∙◌, arith}
use Rattle.std.specs.Prelude.{nat_le}
use Rattle.std.proofs.lemmas.Bool.{false≢true, leb-true, leb-false}
use Rattle.tree_model.specs.Tree.{count}
use Rattle.tree_model.specs.Write.{Write}
use Rattle.rules_reader.specs.Part.{texts}
use Rattle.rules_reader.specs.Place.{HasOneCapture}
use Rattle.rules_reader.specs.declared.kind.Kind.TheVariants.{Write as write_rules}
use Rattle.judge.specs.declared.verdict.Verdict.{Verdict}
use Rattle.judge.specs.declared.verdict.Verdict.TheVariants as verdicts
use Rattle.rtdb_model.specs.declared.limits.TheConstants.{MAX_LOCATIONS}
use Rattle.rtdb_model.specs.declared.reply.Ran.TheVariants.{Empty, Applied, Skipped}
use Rattle.rtdb_model.specs.declared.reply.Refusal.{Refusal}
use Rattle.rtdb_model.specs.declared.reply.Refusal.TheVariants.{SessionOpen, TooManySessions, NoSession, NotAdmin, EmptyUpdate, Overlap, DuplicateId, TooManyListeners, NoListener, Leaving, TooManyActions, NotLeaving, ReadDenied, WriteDenied, ValidateDenied, TreeFull, NoMemory, Spent}
use Rattle.rtdb_model.specs.declared.reply.Reply.{Reply}
use Rattle.rtdb_model.specs.declared.reply.Reply.TheVariants.{Refused, Ran}
use Rattle.rtdb_model.specs.State.{Action, State, is_open, is_leaving, actions_of}
use Rattle.rtdb_model.specs.Step.{Outcome, refused, denial, full, or_full, tree_with, verdict_on, write_refusal, writes_of, run_by, runs_first, runs}
use Rattle.rtdb_model.specs.Headline.{AreOwed, GrantsAll, Validates, Fits, Overflows, MayRun, IsSkipped, IsRunRightly}
use Rattle.rtdb_laws.proofs.Naming.{names_owed}
use Rattle.rtdb_laws.proofs.WriteJudging.{IsVerdict, asked, no_failure, is_verdict, only_verdict}

-- ---- what the writes of an action come to

module _ (old : State) (now session : ℕ) (all : List Write) where
  -- they are made, or skipped for this refusal
  abbrev pub ComesTo : Option Refusal → Type 0
  ComesTo None = GrantsAll old now session all × Validates old now session all × Fits old now all
  ComesTo (Some refusal) = IsSkipped old now session all refusal

  -- they come to this, and to nothing else
  abbrev pub IsFate : Option Refusal → Type 0
  IsFate o = ComesTo o × ((other : Option Refusal) → ComesTo other → other ≡ o)

  -- where all are granted and valid, they are skipped for the room alone
  room_alone : GrantsAll old now session all → Validates old now session all → (refusal : Refusal) → IsSkipped old now session all refusal → (refusal ≡ TreeFull) × Overflows old now all
  room_alone granted valid SessionOpen s = absurd s
  room_alone granted valid TooManySessions s = absurd s
  room_alone granted valid NoSession s = absurd s
  room_alone granted valid NotAdmin s = absurd s
  room_alone granted valid EmptyUpdate s = absurd s
  room_alone granted valid Overlap s = absurd s
  room_alone granted valid DuplicateId s = absurd s
  room_alone granted valid TooManyListeners s = absurd s
  room_alone granted valid NoListener s = absurd s
  room_alone granted valid Leaving s = absurd s
  room_alone granted valid TooManyActions s = absurd s
  room_alone granted valid NotLeaving s = absurd s
  room_alone granted valid (ReadDenied named) s = absurd s
  room_alone granted valid (WriteDenied at named) s = absurd (s.0.refused (granted at s.0.among))
  room_alone granted valid (ValidateDenied at pattern why) s = absurd (no_failure old now session all valid at (texts pattern) why s.1)
  room_alone granted valid TreeFull s = (refl, s.2)
  room_alone granted valid NoMemory s = absurd s
  room_alone granted valid Spent s = absurd s

  fate_of_granted : GrantsAll old now session all → Validates old now session all → IsFate (full (tree_with old now all))
  fate_of_granted granted valid = by_room (nat_le (count (tree_with old now all)) MAX_LOCATIONS) refl
    where
      not_both : Fits old now all → Overflows old now all → ⊥
      not_both fits over = omega arith

      made : Fits old now all → (other : Option Refusal) → ComesTo other → other ≡ None
      made fits None s = refl
      made fits (Some refusal) s = absurd (not_both fits (room_alone granted valid refusal s).1)

      skipped : Overflows old now all → (other : Option Refusal) → ComesTo other → other ≡ Some TreeFull
      skipped over None s = absurd (not_both s.2 over)
      skipped over (Some refusal) s = ap Some (room_alone granted valid refusal s).0

      by_room : (b : Bool) → nat_le (count (tree_with old now all)) MAX_LOCATIONS ≡ b → IsFate (cond b None (Some TreeFull))
      by_room true e = let fits : Fits old now all = leb-true (count (tree_with old now all)) MAX_LOCATIONS e in ((granted, valid, fits), made fits)
      by_room false e = let over : Overflows old now all = leb-false (count (tree_with old now all)) MAX_LOCATIONS e in ((granted, valid, over), skipped over)

  module _ (v : Verdict) (only : (w : Verdict) → IsVerdict old now session all w → w ≡ v) where
    -- whatever else they would come to is a verdict too
    denied_only : (GrantsAll old now session all → ⊥) → (other : Option Refusal) → ComesTo other → other ≡ denial v
    denied_only none None s = absurd (none s.0)
    denied_only none (Some SessionOpen) s = absurd s
    denied_only none (Some TooManySessions) s = absurd s
    denied_only none (Some NoSession) s = absurd s
    denied_only none (Some NotAdmin) s = absurd s
    denied_only none (Some EmptyUpdate) s = absurd s
    denied_only none (Some Overlap) s = absurd s
    denied_only none (Some DuplicateId) s = absurd s
    denied_only none (Some TooManyListeners) s = absurd s
    denied_only none (Some NoListener) s = absurd s
    denied_only none (Some Leaving) s = absurd s
    denied_only none (Some TooManyActions) s = absurd s
    denied_only none (Some NotLeaving) s = absurd s
    denied_only none (Some (ReadDenied named)) s = absurd s
    denied_only none (Some (WriteDenied at named)) s = ap denial (only (verdicts.WriteDenied at named) (s.0, s.1))
    denied_only none (Some (ValidateDenied at pattern why)) s = absurd (none s.0)
    denied_only none (Some TreeFull) s = absurd (none s.0)
    denied_only none (Some NoMemory) s = absurd s
    denied_only none (Some Spent) s = absurd s

    failed_only : GrantsAll old now session all → (Validates old now session all → ⊥) → (other : Option Refusal) → ComesTo other → other ≡ denial v
    failed_only granted none None s = absurd (none s.1)
    failed_only granted none (Some SessionOpen) s = absurd s
    failed_only granted none (Some TooManySessions) s = absurd s
    failed_only granted none (Some NoSession) s = absurd s
    failed_only granted none (Some NotAdmin) s = absurd s
    failed_only granted none (Some EmptyUpdate) s = absurd s
    failed_only granted none (Some Overlap) s = absurd s
    failed_only granted none (Some DuplicateId) s = absurd s
    failed_only granted none (Some TooManyListeners) s = absurd s
    failed_only granted none (Some NoListener) s = absurd s
    failed_only granted none (Some Leaving) s = absurd s
    failed_only granted none (Some TooManyActions) s = absurd s
    failed_only granted none (Some NotLeaving) s = absurd s
    failed_only granted none (Some (ReadDenied named)) s = absurd s
    failed_only granted none (Some (WriteDenied at named)) s = absurd (s.0.refused (granted at s.0.among))
    failed_only granted none (Some (ValidateDenied at pattern why)) s = ap denial (only (verdicts.ValidateDenied at pattern why) s)
    failed_only granted none (Some TreeFull) s = absurd (none s.1)
    failed_only granted none (Some NoMemory) s = absurd s
    failed_only granted none (Some Spent) s = absurd s

  fate_by : HasOneCapture old.rules → (v : Verdict) → IsVerdict old now session all v → ((w : Verdict) → IsVerdict old now session all w → w ≡ v) → IsFate (or_full (denial v) (tree_with old now all))
  fate_by one verdicts.Granted h only = fate_of_granted h.0 h.1
  fate_by one (verdicts.ReadDenied named) h only = absurd h
  fate_by one (verdicts.WriteDenied at named) h only = (
    (h.0, h.1, subst (AreOwed (asked old now session all) write_rules at) (sym h.1) (names_owed (asked old now session all) write_rules at one)),
    denied_only (verdicts.WriteDenied at named) only (λ granted. h.0.refused (granted at h.0.among)),
  )
  fate_by one (verdicts.ValidateDenied at pattern why) h only = (h, failed_only (verdicts.ValidateDenied at pattern why) only h.0 (λ valid. no_failure old now session all valid at (texts pattern) why h.1))

  pub fate_is : HasOneCapture old.rules → IsFate (write_refusal old now session all)
  unfolding write_refusal
  fate_is one = fate_by one (verdict_on old now session all) (is_verdict old now session all) (only_verdict old now session all one)

-- ---- the run

module _ (old : State) (now session : ℕ) where
  abbrev pub RunJudged : Outcome → Type 0
  RunJudged o = IsRunRightly old now session o.reply o.after

  -- refused before an action is looked at, or for want of memory
  run_stopped : (refusal : Refusal) → (Refused refusal ≢ Refused NoMemory → MayRun old session → ⊥) → RunJudged (refused old refusal)
  run_stopped refusal none = record {
    ends = λ n may _. absurd (none n may);
    makes = λ n may _ _ _ _ _ _. absurd (none n may);
    skips = λ n may _ _ _ _ _. absurd (none n may);
    ended = λ e. cc;
    made = λ e. cc;
    skipped = λ other e. cc;
  }

  pub run_for_memory : RunJudged (refused old NoMemory)
  run_for_memory = run_stopped NoMemory (λ n _. n refl)

  module _ (may : MayRun old session) where
    none_left : actions_of old session ≡ [] → RunJudged (record { reply = Ran Empty; after = old })
    none_left none = record {
      ends = λ _ _ _. refl;
      makes = λ _ _ action others is _ _ _. absurd (not_first action others is);
      skips = λ _ _ action others is _ _. absurd (not_first action others is);
      ended = λ e. (may, none, refl);
      made = λ e. cc;
      skipped = λ refusal e. cc;
    }
      where
        not_first : (action : Action) (others : List Action) → actions_of old session ≡ action ∷ others → ⊥
        not_first action others is = let e : action ∷ others ≡ [] = sym is ∙ none in cc

    module _ (action : Action) (others : List Action) (is : actions_of old session ≡ action ∷ others) where
      abbrev Comes : Action → Option Refusal → Type 0
      Comes one o = ComesTo old now session (writes_of one) o

      some_left : actions_of old session ≡ [] → ⊥
      some_left none = let e : action ∷ others ≡ [] = sym is ∙ none in cc

      -- what comes of the first action comes of this one
      this_one : (one : Action) (rest : List Action) → actions_of old session ≡ one ∷ rest → (o : Option Refusal) → Comes one o → Comes action o
      this_one one rest e o h = subst (λ (a : Action). Comes a o) (sym first) h
        where
          first : action ≡ one
          first = let same : action ∷ others ≡ one ∷ rest = sym is ∙ e in cc

      -- what is answered where the action comes to this
      abbrev ran : Option Refusal → Reply
      ran None = Ran Applied
      ran (Some refusal) = Ran (Skipped refusal)

      first_by : (o : Option Refusal) → IsFate old now session (writes_of action) o → RunJudged (run_by old now session (writes_of action) others o)
      first_by None fate = record {
        ends = λ _ _ none. absurd (some_left none);
        makes = λ _ _ _ _ _ _ _ _. refl;
        skips = λ _ _ one rest e refusal s. ap ran (sym (fate.1 (Some refusal) (this_one one rest e (Some refusal) s)));
        ended = λ e. cc;
        made = λ e. (may, action, others, is, fate.0.0, fate.0.1, fate.0.2, refl);
        skipped = λ refusal e. cc;
      }
      first_by (Some why) fate = record {
        ends = λ _ _ none. absurd (some_left none);
        makes = λ _ _ one rest e granted valid fits. ap ran (sym (fate.1 None (this_one one rest e None (granted, valid, fits))));
        skips = λ _ _ one rest e refusal s. ap ran (sym (fate.1 (Some refusal) (this_one one rest e (Some refusal) s)));
        ended = λ e. cc;
        made = λ e. cc;
        skipped = λ refusal e. (may, action, others, is, subst (IsSkipped old now session (writes_of action)) (same refusal e) fate.0, refl);
      }
        where
          same : (refusal : Refusal) → Ran (Skipped why) ≡ Ran (Skipped refusal) → why ≡ refusal
          same refusal e = cc

    first_judged : HasOneCapture old.rules → (actions : List Action) → actions_of old session ≡ actions → RunJudged (runs_first old now session actions)
    first_judged one [] is = none_left is
    first_judged one (action ∷ others) is = first_by action others is (write_refusal old now session (writes_of action)) (fate_is old now session (writes_of action) one)

  pub run_judged : HasOneCapture old.rules → RunJudged (runs old now session)
  run_judged one = by_session (is_open old session) refl
    where
      by_going : is_open old session ≡ true → (b : Bool) → is_leaving old session ≡ b → RunJudged (cond (not b) (refused old NotLeaving) (runs_first old now session (actions_of old session)))
      by_going opened true e = first_judged record { opened = opened; leaving = e } one (actions_of old session) refl
      by_going opened false e = run_stopped NotLeaving (λ _ may. false≢true (sym e ∙ may.leaving))

      by_session : (b : Bool) → is_open old session ≡ b → RunJudged (cond (not b) (refused old NoSession) (cond (not (is_leaving old session)) (refused old NotLeaving) (runs_first old now session (actions_of old session))))
      by_session true e = by_going e (is_leaving old session) refl
      by_session false e = run_stopped NoSession (λ _ may. false≢true (sym e ∙ may.opened))
