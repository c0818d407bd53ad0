-- How sessions leave.
use Rattle.std.proofs.Common.{◌≡◌, ℕ, false, List, [], ◌∷◌, ◌++◌, None, refl, sym, ◌∙◌, ap, subst, append_assoc}
use Rattle.std.proofs.lemmas.List.{append-nil}
use Rattle.entries.specs.Entry.{call, Means}
use Rattle.rtdb_model.specs.declared.event.Event.{Event}
use Rattle.rtdb_model.specs.declared.reply.Reply.{Reply}
use Rattle.rtdb_model.specs.State.{State, is_open}
use Rattle.rtdb_model.specs.Step.{Call, Step, Run}
use Rattle.store.specs.Replay.{AreEntriesOf}
use Rattle.store.specs.Leaving.{Departs, AllDepart, HaveLeft}
use Rattle.store.specs.LeavingWorking.{HasLeft}

-- ---- one after another

run-append : (xs ys : List Call) (rs ss : List Reply) (a b c : State) → Run a xs rs b → Run b ys ss c → Run a (xs ++ ys) (rs ++ ss) c
run-append [] ys [] ss a b c one two = subst (λ s. Run s ys ss c) one two
run-append [] ys (r ∷ rs) ss a b c one two = absurd one
run-append (x ∷ xs) ys [] ss a b c one two = absurd one
run-append (x ∷ xs) ys (r ∷ rs) ss a b c one two = (one.0, one.1, run-append xs ys rs ss one.0 b c one.2 two)

depart-append : (now : ℕ) (xs ys : List Call) (rs ss : List Reply) → AllDepart now xs rs → AllDepart now ys ss → AllDepart now (xs ++ ys) (rs ++ ss)
depart-append now [] ys [] ss one two = two
depart-append now [] ys (r ∷ rs) ss one two = absurd one
depart-append now (x ∷ xs) ys [] ss one two = absurd one
depart-append now (x ∷ xs) ys (r ∷ rs) ss one two = (one.0, one.1, depart-append now xs ys rs ss one.2 two)

entries-append : (es fs : List (List ℕ)) (xs ys : List Call) → AreEntriesOf es xs → AreEntriesOf fs ys → AreEntriesOf (es ++ fs) (xs ++ ys)
entries-append [] fs [] ys one two = two
entries-append [] fs (x ∷ xs) ys one two = absurd one
entries-append (e ∷ es) fs [] ys one two = absurd one
entries-append (e ∷ es) fs (x ∷ xs) ys one two = (one.0, entries-append es fs xs ys one.1 two)

pub left_nothing : (s : State) (now : ℕ) (entries : List (List ℕ)) → HasLeft s now entries entries s
left_nothing s now entries = record { calls = []; replies = []; more = []; run = refl; depart = tt; kept = tt; after_is = sym (append-nil entries) }

pub left_then : (a b c : State) (now : ℕ) (es fs gs : List (List ℕ)) → HasLeft a now es fs b → HasLeft b now fs gs c → HasLeft a now es gs c
left_then a b c now es fs gs one two = record {
  calls = one.calls ++ two.calls;
  replies = one.replies ++ two.replies;
  more = one.more ++ two.more;
  run = run-append one.calls two.calls one.replies two.replies a b c one.run two.run;
  depart = depart-append now one.calls two.calls one.replies two.replies one.depart two.depart;
  kept = entries-append one.more two.more one.calls two.calls one.kept two.kept;
  after_is = two.after_is ∙ ap (λ l. l ++ two.more) one.after_is ∙ append_assoc es one.more two.more;
}

pub left_by : (old new : State) (now session : ℕ) (event : Event) (reply : Reply) (entry : List ℕ) (before : List (List ℕ)) → Step old now session event reply new → Departs event reply
    → Means entry (call (record { now = now; session = session; event = event }) None) → HasLeft old now before (before ++ entry ∷ []) new
left_by old new now session event reply entry before step departs means = record {
  calls = record { now = now; session = session; event = event } ∷ [];
  replies = reply ∷ [];
  more = entry ∷ [];
  run = (new, step, refl);
  depart = (refl, departs, tt);
  kept = ((None, means), tt);
  after_is = refl;
}

pub all_left : (old new : State) (now : ℕ) (entries : List (List ℕ)) → HasLeft old now [] entries new → ((session : ℕ) → is_open new session ≡ false) → HaveLeft old now entries new
all_left old new now entries left none = record {
  calls = left.calls;
  replies = left.replies;
  run = left.run;
  depart = left.depart;
  kept = subst (λ l. AreEntriesOf l left.calls) (sym left.after_is) left.kept;
  closed = none;
}
