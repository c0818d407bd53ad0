-- What is kept for when a session goes is judged as if it were made now.
use Rattle.std.proofs.Common.{◌≡◌, ◌≢◌, ◌==◌, ◌<◌, ◌≤◌, ℕ, Bool, true, false, cond, not, List, [], ◌∷◌, length, refl, sym, ap, ◌∙◌, arith}
use Rattle.std.specs.Prelude.{nat_le}
use Rattle.std.proofs.lemmas.Bool.{false≢true, leb-true, leb-false}
use Rattle.tree_model.specs.Tree.{count}
use Rattle.tree_model.specs.Put.{overlaps}
use Rattle.tree_model.specs.Write.{Write}
use Rattle.rules_reader.specs.Place.{HasOneCapture}
use Rattle.judge.specs.declared.verdict.Verdict.{Verdict}
use Rattle.judge.specs.declared.verdict.Verdict.TheVariants as verdicts
use Rattle.rtdb_model.specs.declared.limits.TheConstants.{MAX_ACTIONS, MAX_LOCATIONS}
use Rattle.rtdb_model.specs.declared.reply.Refusal.{Refusal}
use Rattle.rtdb_model.specs.declared.reply.Refusal.TheVariants.{NoSession, EmptyUpdate, Overlap, Leaving, TooManyActions, WriteDenied, ValidateDenied, TreeFull, NoMemory}
use Rattle.rtdb_model.specs.declared.reply.Reply.{Reply}
use Rattle.rtdb_model.specs.declared.reply.Reply.TheVariants.{Done, Refused}
use Rattle.rtdb_model.specs.State.{State, is_open, is_leaving, is_present, actions_of}
use Rattle.rtdb_model.specs.Step.{Outcome, refused, unless_refused, denial, tree_with, verdict_on, with_action, keeps, keeps_one, keeps_update}
use Rattle.rtdb_model.specs.Headline.{AreJudged, GrantsAll, Validates, MayKeep, IsKeptRightly}
use Rattle.rtdb_laws.proofs.Present.{is_here, closed_is_not_here, leaving_is_not_here, unless_leaving, by_leaving}
use Rattle.rtdb_laws.proofs.WriteJudging.{is_judgement, some_writes, no_writes, WriteJudged, IsVerdict, no_failure, is_verdict, only_verdict, by_verdict}

module _ (old : State) (now session : ℕ) (all : List Write) where
  abbrev pub KeptJudged : Outcome → Type 0
  KeptJudged o = IsKeptRightly old now session all o.reply o.after

  abbrev done : Outcome
  done = record { reply = Done; after = with_action old session all }

  -- ---- not judged

  -- refused before they are judged, or for want of memory
  keep_stopped : (refusal : Refusal) → is_judgement (Refused refusal) ≡ false → (Refused refusal ≢ Refused NoMemory → MayKeep old session all → ⊥) → KeptJudged (refused old refusal)
  keep_stopped refusal other none = record {
    keeps = λ n k _ _. absurd (none n k);
    denies = λ n k _ _. absurd (none n k);
    fails = λ n k _ _ _ _ _. absurd (none n k);
    kept = λ e. absurd (never Done e refl);
    denied = λ at named e. absurd (never (Refused (WriteDenied at named)) e refl);
    owes = λ at named e. absurd (never (Refused (WriteDenied at named)) e refl);
    failed = λ at pattern why e. absurd (never (Refused (ValidateDenied at pattern why)) e refl);
    fits = λ e. never (Refused TreeFull) e refl;
  }
    where
      never : (reply : Reply) → Refused refusal ≡ reply → is_judgement reply ≡ true → ⊥
      never reply e is = false≢true (sym other ∙ ap is_judgement e ∙ is)

  pub keep_for_memory : KeptJudged (refused old NoMemory)
  keep_for_memory = keep_stopped NoMemory refl (λ n _. n refl)

  keep_closed : is_open old session ≡ false → KeptJudged (refused old NoSession)
  keep_closed closed = keep_stopped NoSession refl (λ _ k. closed_is_not_here old session closed k.present)

  keep_leaving : is_leaving old session ≡ true → KeptJudged (refused old Leaving)
  keep_leaving leaves = keep_stopped Leaving refl (λ _ k. leaving_is_not_here old session leaves k.present)

  keep_full : nat_le MAX_ACTIONS (length (actions_of old session)) ≡ true → KeptJudged (refused old TooManyActions)
  keep_full e = keep_stopped TooManyActions refl (λ _ k. full (leb-true MAX_ACTIONS (length (actions_of old session)) e) k.room)
    where
      full : MAX_ACTIONS ≤ length (actions_of old session) → length (actions_of old session) < MAX_ACTIONS → ⊥
      full a b = omega arith

  -- ---- judged

  module _ (k : MayKeep old session all) where
    as_writes : AreJudged old session all
    as_writes = record { present = k.present; some = k.some; apart = k.apart }

    keep_done : GrantsAll old now session all → Validates old now session all → KeptJudged done
    keep_done granted valid = record {
      keeps = λ _ _ _ _. (refl, refl);
      denies = λ _ _ at l. absurd (l.refused (granted at l.among));
      fails = λ _ _ _ at pattern why f. absurd (no_failure old now session all valid at pattern why f);
      kept = λ e. (k, granted, valid, refl);
      denied = λ at named e. cc;
      owes = λ at named e. cc;
      failed = λ at pattern why e. cc;
      fits = λ e. cc;
    }

    -- denied as writes are that are made now
    keep_denied : (refusal : Refusal) → (Refused refusal ≡ Refused TreeFull → ⊥) → Refused refusal ≢ Refused NoMemory → WriteJudged old now session all (refused old refusal) → KeptJudged (refused old refusal)
    keep_denied refusal fits n w = record {
      keeps = λ _ _ granted valid. absurd (by_room granted valid (nat_le (count (tree_with old now all)) MAX_LOCATIONS) refl);
      denies = λ _ _. w.denies n as_writes;
      fails = λ _ _. w.fails n as_writes;
      kept = λ e. absurd (not_done e);
      denied = λ at named e. let d = w.denied at named e in (k, d.1, d.2);
      owes = w.owes;
      failed = λ at pattern why e. let f = w.failed at pattern why e in (k, f.1, f.2);
      fits = fits;
    }
      where
        not_done : Refused refusal ≡ Done → ⊥
        not_done e = cc

        by_room : GrantsAll old now session all → Validates old now session all → (b : Bool) → nat_le (count (tree_with old now all)) MAX_LOCATIONS ≡ b → ⊥
        by_room granted valid true e = not_done (w.makes n as_writes granted valid (leb-true (count (tree_with old now all)) MAX_LOCATIONS e)).0
        by_room granted valid false e = fits (w.overflows n as_writes granted valid (leb-false (count (tree_with old now all)) MAX_LOCATIONS e))

    keep_by : HasOneCapture old.rules → (v : Verdict) → IsVerdict old now session all v → ((w : Verdict) → IsVerdict old now session all w → w ≡ v) → KeptJudged (unless_refused old (denial v) done)
    keep_by one verdicts.Granted h only = keep_done h.0 h.1
    keep_by one (verdicts.ReadDenied named) h only = absurd h
    keep_by one (verdicts.WriteDenied at named) h only = keep_denied (WriteDenied at named) (λ e. cc) (λ e. cc) (by_verdict old now session all as_writes one (verdicts.WriteDenied at named) h only)
    keep_by one (verdicts.ValidateDenied at pattern why) h only = keep_denied (ValidateDenied at pattern why) (λ e. cc) (λ e. cc) (by_verdict old now session all as_writes one (verdicts.ValidateDenied at pattern why) h only)

  -- where no other refusal stops it but that the session has as many actions as it may
  keeps_judged : HasOneCapture old.rules → is_present old session ≡ true → all ≢ [] → overlaps all ≡ false → KeptJudged (keeps old now session all)
  keeps_judged one here some apart = by_room (nat_le MAX_ACTIONS (length (actions_of old session))) refl
    where
      by_room : (b : Bool) → nat_le MAX_ACTIONS (length (actions_of old session)) ≡ b → KeptJudged (cond b (refused old TooManyActions) (unless_refused old (denial (verdict_on old now session all)) done))
      by_room true e = keep_full e
      by_room false e =
          keep_by record { present = here; some = some; apart = apart; room = leb-false MAX_ACTIONS (length (actions_of old session)) e } one
          (verdict_on old now session all) (is_verdict old now session all) (only_verdict old now session all one)

-- ---- the events

pub keep_one_judged : (old : State) (now session : ℕ) (write : Write) → HasOneCapture old.rules → KeptJudged old now session (write ∷ []) (unless_leaving old session (keeps_one old now session write))
keep_one_judged old now session write one =
    by_leaving (KeptJudged old now session (write ∷ [])) old session (keeps_one old now session write)
    (keep_leaving old now session (write ∷ []))
    (λ stays. by_session stays (is_open old session) refl)
  where
    by_session : is_leaving old session ≡ false → (b : Bool) → is_open old session ≡ b → KeptJudged old now session (write ∷ []) (cond (not b) (refused old NoSession) (keeps old now session (write ∷ [])))
    by_session stays true e = keeps_judged old now session (write ∷ []) one (is_here old session e stays) (λ f. cc) refl
    by_session stays false e = keep_closed old now session (write ∷ []) e

pub keep_update_judged : (old : State) (now session : ℕ) (all : List Write) → HasOneCapture old.rules → KeptJudged old now session all (unless_leaving old session (keeps_update old now session all))
keep_update_judged old now session all one =
    by_leaving (KeptJudged old now session all) old session (keeps_update old now session all)
    (keep_leaving old now session all)
    (λ stays. by_session stays (is_open old session) refl)
  where
    by_overlap : is_present old session ≡ true → length all == 0 ≡ false → (b : Bool) → overlaps all ≡ b → KeptJudged old now session all (cond b (refused old Overlap) (keeps old now session all))
    by_overlap here f true g = keep_stopped old now session all Overlap refl (λ _ k. false≢true (sym k.apart ∙ g))
    by_overlap here f false g = keeps_judged old now session all one here (some_writes all f) g

    by_length : is_present old session ≡ true → (b : Bool) → length all == 0 ≡ b → KeptJudged old now session all (cond b (refused old EmptyUpdate) (cond (overlaps all) (refused old Overlap) (keeps old now session all)))
    by_length here true f = keep_stopped old now session all EmptyUpdate refl (λ _ k. k.some (no_writes all f))
    by_length here false f = by_overlap here f (overlaps all) refl

    by_session : is_leaving old session ≡ false → (b : Bool) → is_open old session ≡ b → KeptJudged old now session all (cond (not b) (refused old NoSession) (cond (length all == 0) (refused old EmptyUpdate) (cond (overlaps all) (refused old Overlap) (keeps old now session all))))
    by_session stays true e = by_length (is_here old session e stays) (length all == 0) refl
    by_session stays false e = keep_closed old now session all e
