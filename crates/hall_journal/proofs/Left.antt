-- What a crash leaves of a hall's journal is a beginning of its history.
use Rattle.std.proofs.Common.{◌≡◌, ◌⊎◌, inl, inr, ℕ, Bool, true, false, cond, List, [], ◌∷◌, ◌++◌, map, refl, sym, ap, subst, ◌∙◌, append_assoc}
use Rattle.journal.specs.Format.{Group}
use Rattle.journal.specs.Recovery.{IsFileOf, HasStranger}
use Rattle.rtdb_model.specs.declared.reply.Reply.{Reply}
use Rattle.rtdb_model.specs.State.{State}
use Rattle.rtdb_model.specs.Step.{Call, Run}
use Rattle.rtdb_laws.specs.Effects.{changes, changing, without_listeners}
use Rattle.locked_server.specs.declared.entry.Entry.{Entry}
use Rattle.locked_server.specs.History.{call_of, reply_of, changed_in, Leaves}
use Rattle.store.specs.Replay.{LeadTo, AreEntriesOf}
use Rattle.store.specs.Recovered.{AreIn, IsBeginningOf}
use Rattle.store.proofs.Crashes.{crash_left}
use Rattle.hall_journal.specs.Kept.{Began, IsLeft, LeadsToBeginning, HasByChance}

-- a history that begins with all calls up to one of those that have changed something
record Cut (old : State) (calls : List Call) (replies : List Reply) (made : List Call) : Type 0 where
  earlier : List Call
  later : List Call
  answered : List Reply
  unanswered : List Reply
  left : State
  calls_are : calls ≡ earlier ++ later
  replies_are : replies ≡ answered ++ unanswered
  run : Run old earlier answered left
  changed : changing earlier answered ≡ made

cut : (old new : State) (calls : List Call) (replies : List Reply) (made others : List Call) → Run old calls replies new → changing calls replies ≡ made ++ others → Cut old calls replies made
cut old new calls replies [] others run same = record { earlier = []; later = calls; answered = []; unanswered = replies; left = old; calls_are = refl; replies_are = refl; run = refl; changed = refl }
cut old new [] replies (m ∷ made) others run same = absurd (cc same)
cut old new (c ∷ cs) [] (m ∷ made) others run same = absurd run
cut old new (c ∷ cs) (r ∷ rs) (m ∷ made) others run same =
    by_change (changes c.event r) refl same (λ rest. cut run.0 new cs rs made others run.2 rest) (λ rest. cut run.0 new cs rs (m ∷ made) others run.2 rest)
  where
    with_call : (kept : List Call) → changes c.event r ≡ true → (rest : Cut run.0 cs rs kept) → Cut old (c ∷ cs) (r ∷ rs) (c ∷ kept)
    with_call kept is rest =
        record {
          earlier = c ∷ rest.earlier;
          later = rest.later;
          answered = r ∷ rest.answered;
          unanswered = rest.unanswered;
          left = rest.left;
          calls_are = ap (λ (l : List Call). c ∷ l) rest.calls_are;
          replies_are = ap (λ (l : List Reply). r ∷ l) rest.replies_are;
          run = (run.0, run.1, rest.run);
          changed = ap (λ (b : Bool). cond b (c ∷ changing rest.earlier rest.answered) (changing rest.earlier rest.answered)) is ∙ ap (λ (l : List Call). c ∷ l) rest.changed;
        }

    without_call : (kept : List Call) → changes c.event r ≡ false → (rest : Cut run.0 cs rs kept) → Cut old (c ∷ cs) (r ∷ rs) kept
    without_call kept is rest =
        record {
          earlier = c ∷ rest.earlier;
          later = rest.later;
          answered = r ∷ rest.answered;
          unanswered = rest.unanswered;
          left = rest.left;
          calls_are = ap (λ (l : List Call). c ∷ l) rest.calls_are;
          replies_are = ap (λ (l : List Reply). r ∷ l) rest.replies_are;
          run = (run.0, run.1, rest.run);
          changed = ap (λ (b : Bool). cond b (c ∷ changing rest.earlier rest.answered) (changing rest.earlier rest.answered)) is ∙ rest.changed;
        }

    by_change : (b : Bool) → changes c.event r ≡ b → cond b (c ∷ changing cs rs) (changing cs rs) ≡ (m ∷ made) ++ others
        → (changing cs rs ≡ made ++ others → Cut run.0 cs rs made) → (changing cs rs ≡ (m ∷ made) ++ others → Cut run.0 cs rs (m ∷ made)) → Cut old (c ∷ cs) (r ∷ rs) (m ∷ made)
    by_change true is whole one other =
        let head : c ≡ m = cc whole in
        subst (λ (x : Call). Cut old (c ∷ cs) (r ∷ rs) (x ∷ made)) head (with_call made is (one (cc whole)))
    by_change false is whole one other = without_call (m ∷ made) is (other whole)

-- a beginning of a beginning is one of the whole
further : (old state : State) (calls more : List Call) (replies answers : List Reply) (kept : List (List ℕ)) → IsBeginningOf old calls replies kept state → IsBeginningOf old (calls ++ more) (replies ++ answers) kept state
further old state calls more replies answers kept at =
    record {
      earlier = at.earlier;
      later = at.later ++ more;
      answered = at.answered;
      unanswered = at.unanswered ++ answers;
      left = at.left;
      calls_are = ap (λ (l : List Call). l ++ more) at.calls_are ∙ append_assoc at.earlier at.later more;
      replies_are = ap (λ (l : List Reply). l ++ answers) at.replies_are ∙ append_assoc at.answered at.unanswered answers;
      run = at.run;
      kept_are = at.kept_are;
      state_is = at.state_is;
    }

pub left_is_a_beginning : (began : Began) (had : List Group) (text behind left : List ℕ) (before entries : List (List ℕ)) (seen : List Entry) (changed later : List Call) (end state : State) (groups : List Group) (rest : List ℕ)
    → AreIn before had → LeadTo before text (without_listeners began.opening)
    → Leaves began.opening seen end → changed_in seen ≡ changed ++ later
    → IsLeft began had changed left → IsFileOf began.identifier groups rest left → AreIn entries groups → LeadTo entries behind state
    → LeadsToBeginning began seen before entries state ⊎ HasByChance began had left
unfolding Leaves
left_is_a_beginning began had text behind left before entries seen changed later end state groups rest before_in lead history seen_is is_left read entries_in leads =
    by (crash_left began.identifier left text behind had is_left.stored is_left.appended groups rest entries before is_left.kept is_left.all began.opening at.left state at.earlier at.answered
    before_in lead at.run (subst (λ (cs : List Call). AreEntriesOf is_left.all cs) (sym at.changed) is_left.entries) is_left.all_in is_left.kept_in is_left.survives read entries_in leads)
  where
    calls : List Call
    calls = map call_of seen

    replies : List Reply
    replies = map reply_of seen

    at : Cut began.opening calls replies is_left.made
    at = cut began.opening end calls replies is_left.made (is_left.first.0 ++ later) history.0 (seen_is ∙ ap (λ (l : List Call). l ++ later) is_left.first.1 ∙ append_assoc is_left.made is_left.first.0 later)

    by : ((more : List (List ℕ)) × (entries ≡ before ++ (is_left.kept ++ more)) × IsBeginningOf began.opening at.earlier at.answered (is_left.kept ++ more) state) ⊎ HasStranger began.identifier (had ++ is_left.stored) (had ++ is_left.appended) left
        → LeadsToBeginning began seen before entries state ⊎ HasByChance began had left
    by (inr stranger) = inr (record { stored = is_left.stored; appended = is_left.appended; stranger = stranger })
    by (inl it) =
        inl (record {
          kept = is_left.kept ++ it.0;
          entries_are = it.1;
          beginning = subst (λ (cs : List Call). IsBeginningOf began.opening cs replies (is_left.kept ++ it.0) state) (sym at.calls_are) (subst (λ (rs : List Reply). IsBeginningOf began.opening (at.earlier ++ at.later) rs (is_left.kept ++ it.0) state) (sym at.replies_are)
              (further began.opening state at.earlier at.later at.answered at.unanswered (is_left.kept ++ it.0) it.2));
        })
