-- What a step that does not judge a session's listeners leaves.
use Rattle.std.proofs.Common.{◌≡◌, ℕ, Bool, true, false, not, ◌&&◌, cond, eqb, leb, List, [], ◌∷◌, length, Option, Some, None, is_some, inl, inr, sym, ap, subst, ◌∙◌, refl}
use Rattle.std.proofs.lemmas.Bool.{false≢true, eqb-true}
use Rattle.std.specs.Prelude.{◌==◌}
use Rattle.std.specs.FinMap as map_of
use Rattle.tree_model.specs.Put.{overlaps}
use Rattle.tree_model.specs.Write.{Write}
use Rattle.evaluator.specs.Identity.{Identity}
use Rattle.listeners.specs.declared.limits.TheConstants.{MAX_LISTENERS}
use Rattle.listeners.specs.Table.{Listener, has_id}
use Rattle.rtdb_model.specs.declared.limits.TheConstants.{MAX_SESSIONS, MAX_ACTIONS}
use Rattle.rtdb_model.specs.declared.event.Event.{Event}
use Rattle.rtdb_model.specs.declared.event.Event.TheVariants.{Open, Close, SignIn, SignOut, Get, Set, Remove, Update, Listen, Unlisten, Poll, Tick, Deploy, OnSet, OnRemove, OnUpdate, OnCancel, Leave, RunNext}
use Rattle.rtdb_model.specs.declared.reply.Refusal.{Refusal}
use Rattle.rtdb_model.specs.declared.reply.Refusal.TheVariants.{SessionOpen, TooManySessions, NoSession, NotAdmin, EmptyUpdate, Overlap, DuplicateId, TooManyListeners, NoListener, Leaving, TooManyActions, NotLeaving}
use Rattle.rtdb_model.specs.declared.reply.Reply.{Reply}
use Rattle.rtdb_model.specs.declared.reply.Reply.TheVariants.{Done, Ran, Closed}
use Rattle.rtdb_model.specs.declared.reply.Ran.TheVariants.{Empty, Skipped}
use Rattle.rtdb_model.specs.State.{Action, State, Session, is_open, is_leaving, identity_of, listeners_of, actions_of, is_admin}
use Rattle.rtdb_model.specs.Step.{Outcome, refused, unless_refused, denial, verdict_on, read_refusal, write_refusal, opened, closed, with_session, removal, writes_of, with_actions, with_action, keeps, without_actions, departing, run_by, runs_first, wants_presence, unbarred, outcome, Step, Call}
use Rattle.rtdb_model.specs.Marks.{Taken, judges}
use Rattle.rtdb_model.specs.Ends.{IsStep, IsUntouched}
use Rattle.rtdb_model.proofs.Slots.{who_in, identity-with, identity-without, open-without}
use Rattle.rtdb_laws.proofs.Present.{opened-with, AreAlike, actions_alike, departing_alike}
use Rattle.rtdb_laws.proofs.Kept.{turned, the_call}

module _ (old : State) (call : Call) (n : ℕ) where
  abbrev taken_by : Outcome → Taken
  taken_by o = record { old = old; call = call; reply = o.reply; new = o.after }

  abbrev Leaves : Outcome → Type 0
  Leaves o = judges n (taken_by o) ≡ false → IsUntouched n (taken_by o)

  stays_leaves : (reply : Reply) → Leaves (record { reply = reply; after = old })
  stays_leaves reply j = record { tree = refl; rules = refl; identity = λ _. refl }

  test_leaves : (b : Bool) (refusal : Refusal) (o : Outcome) → Leaves o → Leaves (cond b (refused old refusal) o)
  test_leaves true refusal o h = stays_leaves _
  test_leaves false refusal o h = h

  unless_leaves : (r : Option Refusal) (o : Outcome) → Leaves o → Leaves (unless_refused old r o)
  unless_leaves None o h = h
  unless_leaves (Some refusal) o h = stays_leaves _

  all_leaves : (o : Outcome) → judges n (taken_by o) ≡ true → Leaves o
  all_leaves o all j = absurd (false≢true (sym j ∙ all))

  -- nothing but actions and leaving is another
  alike_leaves : (o : Outcome) → AreAlike o.after old → Leaves o
  alike_leaves o alike j = record { tree = alike.tree; rules = alike.rules; identity = λ _. alike.identities n }

  abbrev own : Reply → Option Identity → List Listener → Outcome
  own reply who mine = record { reply = reply; after = with_session old call.session who mine }

  own_leaves : (reply : Reply) (who : Option Identity) (mine : List Listener) → (eqb n call.session ≡ true → judges n (taken_by (own reply who mine)) ≡ false → who ≡ identity_of old n) → Leaves (own reply who mine)
  own_leaves reply who mine same j = record { tree = refl; rules = refl; identity = λ _. identity-with old call.session who mine n ∙ by_number (eqb n call.session) refl }
    where
      by_number : (b : Bool) → eqb n call.session ≡ b → cond b who (identity_of old n) ≡ identity_of old n
      by_number true e = same e j
      by_number false e = refl

  -- who is signed in on the session of the step stays
  same_leaves : (reply : Reply) (mine : List Listener) → Leaves (own reply (identity_of old call.session) mine)
  same_leaves reply mine = own_leaves reply (identity_of old call.session) mine (λ e j. ap (identity_of old) (sym (eqb-true n call.session e)))

-- ---- each event

module _ (old : State) (now m n : ℕ) where
  abbrev LeavesAt : Event → Outcome → Type 0
  LeavesAt event o = Leaves old (the_call now m event) n o

  judged_own : {A : Type 0} → eqb n m ≡ true → eqb m n ≡ false → A
  judged_own e f = absurd (false≢true (sym (turned m n f) ∙ e))

  none_open : is_open old m ≡ false → eqb n m ≡ true → None ≡ identity_of old n
  none_open h e = nothing (map_of.get old.sessions n) (ap (is_open old) (eqb-true n m e) ∙ h)
    where
      nothing : (o : Option Session) → is_some o ≡ false → None ≡ who_in o
      nothing None g = refl
      nothing (Some one) g = absurd (false≢true (sym g))

  open_leaves : (b : Bool) → is_open old m ≡ b → LeavesAt Open (cond b (refused old SessionOpen) (cond (leb MAX_SESSIONS (map_of.len old.sessions)) (refused old TooManySessions) (record { reply = Done; after = opened old m })))
  open_leaves true e = stays_leaves old (the_call now m Open) n _
  open_leaves false e =
      test_leaves old (the_call now m Open) n (leb MAX_SESSIONS (map_of.len old.sessions)) TooManySessions _
      (subst (λ (s : State). LeavesAt Open (record { reply = Done; after = s })) (sym (opened-with old m e))
      (own_leaves old (the_call now m Open) n Done None [] (λ same j. none_open e same)))

  close_leaves : LeavesAt Close (record { reply = Closed (length (actions_of old m)); after = closed old m })
  close_leaves j = record { tree = refl; rules = refl; identity = λ opened. identity-without old m n ∙ by_number (eqb n m) (sym (open-without old m n) ∙ opened) }
    where
      by_number : (b : Bool) → cond b false (is_open old n) ≡ true → cond b None (identity_of old n) ≡ identity_of old n
      by_number true g = absurd (false≢true g)
      by_number false g = refl

  keep_leaves : (event : Event) (writes : List Write) → LeavesAt event (keeps old now m writes)
  keep_leaves event writes =
      let call = the_call now m event in
      test_leaves old call n (leb MAX_ACTIONS (length (actions_of old m))) TooManyActions _
      (unless_leaves old call n (denial (verdict_on old now m writes)) _ (alike_leaves old call n (record { reply = Done; after = with_action old m writes }) (actions_alike old m _)))

  run_leaves : (writes : List Write) (others : List Action) (r : Option Refusal) → LeavesAt RunNext (run_by old now m writes others r)
  run_leaves writes others None = all_leaves old (the_call now m RunNext) n _ refl
  run_leaves writes others (Some refusal) = alike_leaves old (the_call now m RunNext) n (record { reply = Ran (Skipped refusal); after = with_actions old m others }) (actions_alike old m others)

  first_leaves : (actions : List Action) → LeavesAt RunNext (runs_first old now m actions)
  first_leaves [] = stays_leaves old (the_call now m RunNext) n (Ran Empty)
  first_leaves (action ∷ others) = run_leaves (writes_of action) others (write_refusal old now m (writes_of action))

  unbarred_leaves : (event : Event) → LeavesAt event (unbarred old now m event)
  unbarred_leaves Open = open_leaves (is_open old m) refl
  unbarred_leaves Close = test_leaves old (the_call now m Close) n (not (is_open old m)) NoSession _ close_leaves
  unbarred_leaves (SignIn who) = test_leaves old (the_call now m (SignIn who)) n (not (is_open old m)) NoSession _ (own_leaves old (the_call now m (SignIn who)) n Done (Some who) _ (λ e j. judged_own e j))
  unbarred_leaves SignOut = test_leaves old (the_call now m SignOut) n (not (is_open old m)) NoSession _ (own_leaves old (the_call now m SignOut) n Done None _ (λ e j. judged_own e j))
  unbarred_leaves (Get path query) =
      let call = the_call now m (Get path query) in
      test_leaves old call n (not (is_open old m)) NoSession _ (unless_leaves old call n (read_refusal old now m path query) _ (stays_leaves old call n _))
  unbarred_leaves (Set write) =
      let call = the_call now m (Set write) in
      test_leaves old call n (not (is_open old m)) NoSession _ (unless_leaves old call n (write_refusal old now m (write ∷ [])) _ (all_leaves old call n _ refl))
  unbarred_leaves (Remove path) =
      let call = the_call now m (Remove path) in
      test_leaves old call n (not (is_open old m)) NoSession _ (unless_leaves old call n (write_refusal old now m (removal path ∷ [])) _ (all_leaves old call n _ refl))
  unbarred_leaves (Update writes) =
      let call = the_call now m (Update writes) in
      test_leaves old call n (not (is_open old m)) NoSession _
      (test_leaves old call n (length writes == 0) EmptyUpdate _
      (test_leaves old call n (overlaps writes) Overlap _
      (unless_leaves old call n (write_refusal old now m writes) _ (all_leaves old call n _ refl))))
  unbarred_leaves (Listen id path query) =
      let call = the_call now m (Listen id path query) in
      test_leaves old call n (not (is_open old m)) NoSession _
      (test_leaves old call n (has_id id (listeners_of old m)) DuplicateId _
      (test_leaves old call n (leb MAX_LISTENERS (length (listeners_of old m))) TooManyListeners _
      (unless_leaves old call n (read_refusal old now m path query) _ (same_leaves old call n _ _))))
  unbarred_leaves (Unlisten id) =
      let call = the_call now m (Unlisten id) in
      test_leaves old call n (not (is_open old m)) NoSession _
      (test_leaves old call n (not (has_id id (listeners_of old m))) NoListener _ (same_leaves old call n _ _))
  unbarred_leaves Poll = test_leaves old (the_call now m Poll) n (not (is_open old m)) NoSession _ (same_leaves old (the_call now m Poll) n _ _)
  unbarred_leaves Tick = all_leaves old (the_call now m Tick) n _ refl
  unbarred_leaves (Deploy rules) =
      let call = the_call now m (Deploy rules) in
      test_leaves old call n (not (is_open old m)) NoSession _
      (test_leaves old call n (not (is_admin (identity_of old m))) NotAdmin _ (all_leaves old call n _ refl))
  unbarred_leaves (OnSet write) = test_leaves old (the_call now m (OnSet write)) n (not (is_open old m)) NoSession _ (keep_leaves (OnSet write) (write ∷ []))
  unbarred_leaves (OnRemove path) = test_leaves old (the_call now m (OnRemove path)) n (not (is_open old m)) NoSession _ (keep_leaves (OnRemove path) (removal path ∷ []))
  unbarred_leaves (OnUpdate writes) =
      let call = the_call now m (OnUpdate writes) in
      test_leaves old call n (not (is_open old m)) NoSession _
      (test_leaves old call n (length writes == 0) EmptyUpdate _
      (test_leaves old call n (overlaps writes) Overlap _ (keep_leaves (OnUpdate writes) writes)))
  unbarred_leaves (OnCancel path) =
      let call = the_call now m (OnCancel path) in
      test_leaves old call n (not (is_open old m)) NoSession _ (alike_leaves old call n (record { reply = Done; after = without_actions old m path }) (actions_alike old m _))
  unbarred_leaves Leave =
      let call = the_call now m Leave in
      test_leaves old call n (not (is_open old m)) NoSession _ (alike_leaves old call n (record { reply = Done; after = departing old m }) (departing_alike old m))
  unbarred_leaves RunNext =
      let call = the_call now m RunNext in
      test_leaves old call n (not (is_open old m)) NoSession _
      (test_leaves old call n (not (is_leaving old m)) NotLeaving _ (first_leaves (actions_of old m)))

  outcome_leaves : (event : Event) → LeavesAt event (outcome old now m event)
  outcome_leaves event = test_leaves old (the_call now m event) n (wants_presence event && is_leaving old m) Leaving _ (unbarred_leaves event)

pub step_leaves : (t : Taken) (n : ℕ) → IsStep t → judges n t ≡ false → IsUntouched n t
unfolding Step
step_leaves t n (inl h) j =
    by_parts h j
  where
    by_parts : outcome t.old t.call.now t.call.session t.call.event ≡ record { reply = t.reply; after = t.new } → judges n t ≡ false → IsUntouched n t
    by_parts e = subst (λ (o : Outcome). judges n (record { old = t.old; call = t.call; reply = o.reply; new = o.after }) ≡ false → IsUntouched n (record { old = t.old; call = t.call; reply = o.reply; new = o.after })) e (outcome_leaves t.old t.call.now t.call.session n t.call.event)
step_leaves t n (inr h) j = record { tree = ap (λ (s : State). s.tree) h.1; rules = ap (λ (s : State). s.rules) h.1; identity = λ _. ap (λ (s : State). identity_of s n) h.1 }
