-- The entries of a history lead where the history did.
use Rattle.std.proofs.Common.{◌≡◌, ℕ, List, [], ◌∷◌, ◌++◌, Bool, true, false, cond, refl, sym, ap, subst}
use Rattle.rtdb_model.specs.declared.reply.Reply.{Reply}
use Rattle.rtdb_model.specs.State.{State}
use Rattle.rtdb_model.specs.Step.{Call, Run}
use Rattle.rtdb_laws.specs.Effects.{changes, changing, effective, without_listeners}
use Rattle.rtdb_laws.proofs.Silence.{run_kept}
use Rattle.entries.specs.Entry.{call}
use Rattle.store.specs.Replay.{opened, text_behind, Replays, AreEntriesOf}
use Rattle.store.specs.Recovered.{IsBeginningOf}
use Rattle.store.proofs.Stages.{same_opened}
use Rattle.store.proofs.Replays.{replays_one}

-- every reply is one to something that changes
abbrev AllChange : List Call → List Reply → Type 0
AllChange [] [] = Unit {0}
AllChange [] (r ∷ rs) = ⊥
AllChange (c ∷ cs) [] = ⊥
AllChange (c ∷ cs) (r ∷ rs) = (changes c.event r ≡ true) × AllChange cs rs

-- calls that change something are replayed to where they led
replay_run : (entries : List (List ℕ)) (calls : List Call) (replies : List Reply) (old new : State) (text : List ℕ) → AreEntriesOf entries calls → AllChange calls replies → Run old calls replies new → (behind : List ℕ) × Replays entries (opened text old) (opened behind new)
replay_run [] [] [] old new text are all run = (text, ap (opened text) run)
replay_run [] [] (r ∷ rs) old new text are all run = absurd run
replay_run [] (c ∷ cs) rs old new text are all run = absurd are
replay_run (e ∷ es) [] rs old new text are all run = absurd are
replay_run (e ∷ es) (c ∷ cs) [] old new text are all run = absurd run
replay_run (e ∷ es) (c ∷ cs) (r ∷ rs) old new text are all run =
    let deployed = are.0.0 in
    let next = text_behind text deployed in
    let rest = replay_run es cs rs run.0 new next are.1 all.1 run.2 in (
      rest.0,
      (
        call c deployed,
        opened next run.0,
        are.0.1,
        record { text = text; state = old; reply = r; left = run.0; is_before = refl; step = run.1; effective = all.0; is_after = refl },
        rest.1,
      ),
    )

all_change : (calls : List Call) (replies : List Reply) → AllChange (changing calls replies) (effective calls replies)
all_change [] replies = none replies
  where
    none : (replies : List Reply) → AllChange (changing [] replies) (effective [] replies)
    none replies = tt
all_change (c ∷ cs) [] = tt
all_change (c ∷ cs) (r ∷ rs) = by_change (changes c.event r) refl (all_change cs rs)
  where
    by_change : (b : Bool) → changes c.event r ≡ b → AllChange (changing cs rs) (effective cs rs) → AllChange (cond b (c ∷ changing cs rs) (changing cs rs)) (cond b (r ∷ effective cs rs) (effective cs rs))
    by_change true e rest = (e, rest)
    by_change false e rest = rest

pub history_leads : (old new : State) (calls : List Call) (replies : List Reply) (entries : List (List ℕ)) (text : List ℕ) → Run old calls replies new → AreEntriesOf entries (changing calls replies)
    → (behind : List ℕ) × Replays entries (opened text (without_listeners old)) (opened behind (without_listeners new))
history_leads old new calls replies entries text run are =
    replay_run entries (changing calls replies) (effective calls replies) (without_listeners old) (without_listeners new) text are (all_change calls replies) (run_kept old new calls replies run)

-- ---- a beginning of the entries is the entries of a beginning

-- the history parts where its kept calls part
pub record Parts (old new : State) (calls : List Call) (replies : List Reply) (front back : List (List ℕ)) : Type 0 where
  pub earlier : List Call
  pub later : List Call
  pub answered : List Reply
  pub unanswered : List Reply
  pub left : State
  pub calls_are : calls ≡ earlier ++ later
  pub replies_are : replies ≡ answered ++ unanswered
  pub run : Run old earlier answered left
  pub kept_are : AreEntriesOf front (changing earlier answered)

pub parts : (old new : State) (calls : List Call) (replies : List Reply) (front back : List (List ℕ)) → Run old calls replies new → AreEntriesOf (front ++ back) (changing calls replies) → Parts old new calls replies front back
parts old new calls replies [] back run are = record { earlier = []; later = calls; answered = []; unanswered = replies; left = old; calls_are = refl; replies_are = refl; run = refl; kept_are = tt }
parts old new [] [] (e ∷ front) back run are = absurd are
parts old new [] (r ∷ rs) (e ∷ front) back run are = absurd run
parts old new (c ∷ cs) [] (e ∷ front) back run are = absurd run
parts old new (c ∷ cs) (r ∷ rs) (e ∷ front) back run are =
    by_change (changes c.event r) refl are (λ kept. parts run.0 new cs rs front back run.2 kept) (λ kept. parts run.0 new cs rs (e ∷ front) back run.2 kept)
  where
    by_change : (b : Bool) → changes c.event r ≡ b → AreEntriesOf (e ∷ (front ++ back)) (cond b (c ∷ changing cs rs) (changing cs rs))
        → (AreEntriesOf (front ++ back) (changing cs rs) → Parts run.0 new cs rs front back) → (AreEntriesOf ((e ∷ front) ++ back) (changing cs rs) → Parts run.0 new cs rs (e ∷ front) back) → Parts old new (c ∷ cs) (r ∷ rs) (e ∷ front) back
    by_change true is kept one other =
        let rest = one kept.1 in
        record {
          earlier = c ∷ rest.earlier;
          later = rest.later;
          answered = r ∷ rest.answered;
          unanswered = rest.unanswered;
          left = rest.left;
          calls_are = ap (λ l. c ∷ l) rest.calls_are;
          replies_are = ap (λ l. r ∷ l) rest.replies_are;
          run = (run.0, run.1, rest.run);
          kept_are = subst (λ (b : Bool). AreEntriesOf (e ∷ front) (cond b (c ∷ changing rest.earlier rest.answered) (changing rest.earlier rest.answered))) (sym is) (kept.0, rest.kept_are);
        }
    by_change false is kept one other =
        let rest = other kept in
        record {
          earlier = c ∷ rest.earlier;
          later = rest.later;
          answered = r ∷ rest.answered;
          unanswered = rest.unanswered;
          left = rest.left;
          calls_are = ap (λ l. c ∷ l) rest.calls_are;
          replies_are = ap (λ l. r ∷ l) rest.replies_are;
          run = (run.0, run.1, rest.run);
          kept_are = subst (λ (b : Bool). AreEntriesOf (e ∷ front) (cond b (c ∷ changing rest.earlier rest.answered) (changing rest.earlier rest.answered))) (sym is) rest.kept_are;
        }

-- a replay of the first of a history's entries leads to a beginning of it
pub beginning : (old new state : State) (calls : List Call) (replies : List Reply) (front back : List (List ℕ)) (text behind : List ℕ) → Run old calls replies new → AreEntriesOf (front ++ back) (changing calls replies)
    → Replays front (opened text (without_listeners old)) (opened behind state) → IsBeginningOf old calls replies front state
beginning old new state calls replies front back text behind run are replayed =
    let at = parts old new calls replies front back run are in
    let leads = history_leads old at.left at.earlier at.answered front text at.run at.kept_are in
    let same = replays_one front (opened text (without_listeners old)) (opened behind state) (opened leads.0 (without_listeners at.left)) replayed leads.1 in
    record {
      earlier = at.earlier;
      later = at.later;
      answered = at.answered;
      unanswered = at.unanswered;
      left = at.left;
      calls_are = at.calls_are;
      replies_are = at.replies_are;
      run = at.run;
      kept_are = at.kept_are;
      state_is = (same_opened behind leads.0 state (without_listeners at.left) same).1;
    }
