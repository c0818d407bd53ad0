-- What the steps of a departure come to.
use Rattle.std.proofs.Common.{◌≡◌, inl, inr, ℕ, suc, ◌+◌, ◌-◌, ◌<◌, Bool, true, false, not, cond, List, [], ◌∷◌, ◌++◌, length, map, Option, Some, None, is_some, Vec, Global, T, refl, sym, ◌∙◌, ap, subst, arith}
use Rattle.std.proofs.lemmas.Bool.{false≢true, eq-eqb}
use Rattle.std.proofs.lemmas.List.{length-map, map-append}
use Rattle.std.specs.Prelude.{◌&&◌, ◌||◌, slice_get}
use Rattle.std.specs.FinMap as map_of
use Rattle.std.specs.FinMap.{find, is_sorted}
use Rattle.std.specs.FinMap.Entries.{below_all}
use Rattle.std.specs.Cmp.{nat_cmp_total}
use Rattle.std.specs.Ordering.{nat_cmp, is_lt}
use Rattle.entries.specs.Entry.{call, Means}
use Rattle.tree_model.specs.Write.{Write}
use Rattle.tree_model.proofs.Grafts.{entries-sorted}
use Rattle.rtdb_model.specs.declared.event.Event.{Event}
use Rattle.rtdb_model.specs.declared.event.Event.TheVariants.{Close, Leave, RunNext}
use Rattle.rtdb_model.specs.declared.reply.Reply.{Reply}
use Rattle.rtdb_model.specs.declared.reply.Reply.TheVariants.{Done, Ran, Closed}
use Rattle.rtdb_model.specs.declared.reply.Ran.{Ran as WhatRan}
use Rattle.rtdb_model.specs.declared.reply.Ran.TheVariants.{Empty, Applied, Skipped}
use Rattle.rtdb_model.specs.declared.reply.Refusal.{Refusal}
use Rattle.rtdb_model.specs.declared.reply.Refusal.TheVariants.{Leaving, NoSession, NotLeaving}
use Rattle.rtdb_model.specs.State.{Action, State, Session, Sessions, session_or_fresh, session_in, is_open, is_leaving, actions_of, each_session}
use Rattle.rtdb_model.specs.Rejudged.{rejudged}
use Rattle.rtdb_model.specs.Step.{Outcome, refused, outcome, unbarred, runs_first, run_by, write_refusal, writes_of, departing, closed, with_actions, written_to, tree_with, Step}
use Rattle.rtdb_model.proofs.Slots.{put_at, is_same, get-put_at, actions-put_at, open-again, changed}
use Rattle.rtdb_laws.proofs.Presence.{leaving-put_at, leaving-again}
use Rattle.store.specs.Leaving.{Departs}
use Rattle.store.specs.LeavingWorking.{HasLeft, IsLeavingAmong, HasRun}
use Rattle.store.proofs.Departures.{left_by}

-- ---- the entry of a step that is added

-- the bytes of these entries
abbrev pub texts : List (Vec ℕ Global) → List (List ℕ)
texts entries = map (λ entry. entry.items) entries

pub left_more : (before after : List (Vec ℕ Global)) (entry : Vec ℕ Global) → after ≡ before ++ entry ∷ [] → (old new : State) (now n : ℕ) (event : Event) (reply : Reply)
    → Step old now n event reply new → Departs event reply → Means entry.items (call (record { now = now; session = n; event = event }) None)
    → HasLeft old now (texts before) (texts after) new
left_more before after entry added old new now n event reply step departs means =
    subst (λ (l : List (List ℕ)). HasLeft old now (texts before) l new)
    (sym (ap texts added ∙ map-append (λ (one : Vec ℕ Global). one.items) before (entry ∷ [])))
    (left_by old new now n event reply entry.items (texts before) step departs means)

-- ---- how many sessions are open

positive : (n : ℕ) (es : List (ℕ × Session)) → is_some (find nat_cmp n es) ≡ true → 0 < length es
positive n [] e = absurd (false≢true e)
positive n (x ∷ es) e = omega arith

some_open : (s : State) (n : ℕ) → is_open s n ≡ true → 0 < map_of.len s.sessions
some_open s n opened =
    let more : 0 < length (map_of.entries s.sessions) = positive n (map_of.entries s.sessions) (ap is_some (sym (map_of.get-entries s.sessions n)) ∙ opened) in
    let same : map_of.len s.sessions ≡ length (map_of.entries s.sessions) = map_of.len-entries s.sessions in
    omega arith

len-put_at : (s : State) (n : ℕ) (one : Session) → is_open s n ≡ true → map_of.len (put_at s n one).sessions ≡ map_of.len s.sessions
len-put_at s n one opened = map_of.len-insert nat_cmp_total s.sessions n one ∙ ap (λ (b : Bool). cond b (map_of.len s.sessions) (map_of.len s.sessions + 1)) opened

len-closed : (s : State) (n : ℕ) → is_open s n ≡ true → map_of.len (closed s n).sessions < map_of.len s.sessions
len-closed s n opened =
    let less : map_of.len (closed s n).sessions ≡ map_of.len s.sessions - 1 = map_of.len-remove nat_cmp_total s.sessions n ∙ ap (λ (b : Bool). cond b (map_of.len s.sessions - 1) (map_of.len s.sessions)) opened in
    let some : 0 < map_of.len s.sessions = some_open s n opened in
    omega arith

-- as many where each is changed
from_T : (b : Bool) → T b → b ≡ true
from_T true h = refl
from_T false h = absurd h

below-changed : (f : Session → Session) (n : ℕ) (es : List (ℕ × Session)) → below_all nat_cmp n (changed f es) ≡ below_all nat_cmp n es
below-changed f n [] = refl
below-changed f n (e ∷ es) = ap (λ (b : Bool). is_lt (nat_cmp n e.0) && b) (below-changed f n es)

sorted-changed : (f : Session → Session) (es : List (ℕ × Session)) → is_sorted nat_cmp (changed f es) ≡ is_sorted nat_cmp es
sorted-changed f [] = refl
sorted-changed f (e ∷ es) = λ i. below-changed f e.0 es i && sorted-changed f es i

len-each : (f : Session → Session) (m : Sessions) → map_of.len (each_session f m) ≡ map_of.len m
len-each f m =
    map_of.len-entries (each_session f m)
    ∙ ap length (entries-sorted nat_cmp_total map_of.nat_cmp-IsAntisymmetric (changed f (map_of.entries m)) (sorted-changed f (map_of.entries m) ∙ from_T _ (map_of.entries_sorted m)))
    ∙ length-map (map_of.entries m) (λ e. (e.0, f e.1))
    ∙ sym (map_of.len-entries m)

-- ---- a session that is put in the place of one that is open

module _ (old base : State) (n : ℕ) (one : Session) where
  amongst : is_open base n ≡ true → one.leaving ≡ true → map_of.len base.sessions ≡ map_of.len old.sessions → IsLeavingAmong old n (put_at base n one)
  amongst opened leaving same = record {
    opened = ap is_some (get-put_at base n one n ∙ ap (λ (b : Bool). cond b (Some one) (map_of.get base.sessions n)) (eq-eqb n n refl));
    leaving = leaving-put_at base n one n ∙ ap (λ (b : Bool). cond b one.leaving (is_leaving base n)) (eq-eqb n n refl) ∙ leaving;
    same = len-put_at base n one opened ∙ same;
  }

-- ---- a session leaves

abbrev Leaves : State → ℕ → Reply → State → Type 0
Leaves old n reply new = Departs Leave reply × IsLeavingAmong old n new

module _ (old : State) (now n : ℕ) where
  left_outcome : is_open old n ≡ true → is_leaving old n ≡ false → Leaves old n (outcome old now n Leave).reply (outcome old now n Leave).after
  left_outcome opened stays = by_leaving (is_leaving old n) stays
    where
      by_open : (b : Bool) → b ≡ true → let o : Outcome = cond (not b) (refused old NoSession) (record { reply = Done; after = departing old n }) in Leaves old n o.reply o.after
      by_open true e = (refl, amongst old old n (record (session_in old n) { leaving = true }) opened refl refl)
      by_open false e = absurd (false≢true e)

      by_leaving : (b : Bool) → b ≡ false → let o : Outcome = cond b (refused old Leaving) (unbarred old now n Leave) in Leaves old n o.reply o.after
      by_leaving true e = absurd (false≢true (sym e))
      by_leaving false e = by_open (is_open old n) opened

pub leave_gives : (old new : State) (now n : ℕ) (reply : Reply) → is_open old n ≡ true → is_leaving old n ≡ false → Step old now n Leave reply new → Leaves old n reply new
unfolding Step
leave_gives old new now n reply opened stays (inl h) = subst (λ (o : Outcome). Leaves old n o.reply o.after) h (left_outcome old now n opened stays)
leave_gives old new now n reply opened stays (inr h) = absurd (false≢true (sym h.2 ∙ ap (λ (b : Bool). b || true) stays))

-- ---- a session that has no actions is closed

abbrev Closes : State → Reply → State → Type 0
Closes old reply new = Departs Close reply × (map_of.len new.sessions < map_of.len old.sessions)

closed_outcome : (old : State) (now n : ℕ) → is_open old n ≡ true → actions_of old n ≡ [] → Closes old (outcome old now n Close).reply (outcome old now n Close).after
closed_outcome old now n opened none = by_open (is_open old n) opened
  where
    by_open : (b : Bool) → b ≡ true → let o : Outcome = cond (not b) (refused old NoSession) (record { reply = Closed (length (actions_of old n)); after = closed old n }) in Closes old o.reply o.after
    by_open true e = (ap (λ (actions : List Action). Closed (length actions)) none, len-closed old n opened)
    by_open false e = absurd (false≢true e)

pub close_gives : (old new : State) (now n : ℕ) (reply : Reply) → is_open old n ≡ true → actions_of old n ≡ [] → Step old now n Close reply new → Closes old reply new
unfolding Step
close_gives old new now n reply opened none (inl h) = subst (λ (o : Outcome). Closes old o.reply o.after) h (closed_outcome old now n opened none)
close_gives old new now n reply opened none (inr h) = absurd (false≢true (sym h.2))

-- ---- the first action of a session is run

-- it has one action less
abbrev OneLess : State → ℕ → State → Type 0
OneLess old n new = IsLeavingAmong old n new × (length (actions_of new n) < length (actions_of old n))

abbrev Runs : State → ℕ → Reply → State → Type 0
Runs old n (Ran Empty) new = (new ≡ old) × (actions_of old n ≡ [])
Runs old n (Ran Applied) new = OneLess old n new
Runs old n (Ran (Skipped refusal)) new = OneLess old n new
Runs old n reply new = Unit {0}

module _ (old : State) (now n : ℕ) (opened : is_open old n ≡ true) (leaving : is_leaving old n ≡ true) where
  less_by : (base : State) (action : Action) (others : List Action) → actions_of old n ≡ action ∷ others → is_open base n ≡ true → is_leaving base n ≡ true → map_of.len base.sessions ≡ map_of.len old.sessions → OneLess old n (with_actions base n others)
  less_by base action others is open_there leaving_there same =
      let kept : actions_of (with_actions base n others) n ≡ others = actions-put_at base n one n ∙ ap (λ (b : Bool). cond b others (actions_of base n)) (eq-eqb n n refl) in
      let after : length (actions_of (with_actions base n others) n) ≡ length others = ap length kept in
      let before : length (actions_of old n) ≡ suc (length others) = ap length is in
      (amongst old base n one open_there leaving_there same, omega (arith, after, before))
    where
      one : Session
      one = record (session_in base n) { actions = others }

  run_by_writes : (writes : List Write) (action : Action) (others : List Action) → actions_of old n ≡ action ∷ others → (r : Option Refusal) → Runs old n (run_by old now n writes others r).reply (run_by old now n writes others r).after
  run_by_writes writes action others is None = less_by (written_to old now writes) action others is (open-again old.tree now mid n ∙ opened) (leaving-again old.tree now mid n ∙ leaving) (len-each (rejudged old.tree mid now) old.sessions)
    where
      mid : State
      mid = record { tree = tree_with old now writes; rules = old.rules; sessions = old.sessions }
  run_by_writes writes action others is (Some refusal) = less_by old action others is opened leaving refl

  run_of : (actions : List Action) → actions_of old n ≡ actions → Runs old n (runs_first old now n actions).reply (runs_first old now n actions).after
  run_of [] is = (refl, is)
  run_of (action ∷ others) is = run_by_writes (writes_of action) action others is (write_refusal old now n (writes_of action))

  run_outcome : Runs old n (outcome old now n RunNext).reply (outcome old now n RunNext).after
  run_outcome = by_open (is_open old n) opened
    where
      by_leaving : (b : Bool) → b ≡ true → let o : Outcome = cond (not b) (refused old NotLeaving) (runs_first old now n (actions_of old n)) in Runs old n o.reply o.after
      by_leaving true e = run_of (actions_of old n) refl
      by_leaving false e = absurd (false≢true e)

      by_open : (b : Bool) → b ≡ true → let o : Outcome = cond (not b) (refused old NoSession) (cond (not (is_leaving old n)) (refused old NotLeaving) (runs_first old now n (actions_of old n))) in Runs old n o.reply o.after
      by_open true e = by_leaving (is_leaving old n) leaving
      by_open false e = absurd (false≢true e)

  run_gives : (new : State) (reply : Reply) → Step old now n RunNext reply new → Runs old n reply new
  unfolding Step
  run_gives new reply (inl h) = subst (λ (o : Outcome). Runs old n o.reply o.after) h run_outcome
  run_gives new reply (inr h) = subst (λ (r : Reply). Runs old n r new) (sym h.0) tt

  -- by what was answered
  pub ran_none : (new : State) (reply : Reply) (ran : WhatRan) → reply ≡ Ran ran → ran ≡ Empty → Step old now n RunNext reply new → HasRun old now n new false
  ran_none new reply ran is empty step = subst (λ (r : Reply). Runs old n r new) (is ∙ ap Ran empty) (run_gives new reply step)

  pub ran_applied : (new : State) (reply : Reply) (ran : WhatRan) → reply ≡ Ran ran → ran ≡ Applied → Step old now n RunNext reply new → HasRun old now n new true
  ran_applied new reply ran is applied step =
      let less : OneLess old n new = subst (λ (r : Reply). Runs old n r new) (is ∙ ap Ran applied) (run_gives new reply step) in
      (reply, step, inl (is ∙ ap Ran applied), less.0, less.1)

  pub ran_skipped : (new : State) (reply : Reply) (ran : WhatRan) (refusal : Refusal) → reply ≡ Ran ran → ran ≡ Skipped refusal → Step old now n RunNext reply new → HasRun old now n new true
  ran_skipped new reply ran refusal is skipped step =
      let less : OneLess old n new = subst (λ (r : Reply). Runs old n r new) (is ∙ ap Ran skipped) (run_gives new reply step) in
      (reply, step, inr (refusal, is ∙ ap Ran skipped), less.0, less.1)

-- ---- the session with the least number

at_front : (n : ℕ) (one : Session) (es : List (ℕ × Session)) → slice_get es 0 ≡ Some (n, one) → find nat_cmp n es ≡ Some one
at_front n one [] h = absurd (cc)
at_front n one (x ∷ es) h =
    let same : x ≡ (n, one) = cc in
    subst (λ (y : ℕ × Session). find nat_cmp n (y ∷ es) ≡ Some one) (sym same) (ap (λ (b : Bool). cond b (Some one) (find nat_cmp n es)) (is_same n n ∙ eq-eqb n n refl))

pub first_is : (s : State) (es : List (ℕ × Session)) (n : ℕ) (one : Session) → es ≡ map_of.entries s.sessions → slice_get es 0 ≡ Some (n, one) → (is_open s n ≡ true) × (is_leaving s n ≡ one.leaving)
first_is s es n one is h =
    let found : map_of.get s.sessions n ≡ Some one = map_of.get-entries s.sessions n ∙ ap (find nat_cmp n) (sym is) ∙ at_front n one es h in
    (ap is_some found, ap (λ (o : Option Session). (session_or_fresh o).leaving) found)

pub none_is : (s : State) (es : List (ℕ × Session)) → es ≡ map_of.entries s.sessions → (0 < length es → ⊥) → (n : ℕ) → is_open s n ≡ false
none_is s [] is none n = ap is_some (map_of.get-entries s.sessions n ∙ ap (find nat_cmp n) (sym is))
none_is s (x ∷ es) is none n = absurd (none (omega arith))
