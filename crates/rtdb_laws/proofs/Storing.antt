-- What is stored, step by step.
use Rattle.std.proofs.Common.{◌≡◌, ◌&&◌, ℕ, Bool, true, false, not, cond, leb, List, [], ◌∷◌, length, Option, Some, None, inl, inr, refl, sym, ap, subst, ◌∙◌}
use Rattle.std.specs.Prelude.{◌==◌}
use Rattle.std.specs.FinMap as map_of
use Rattle.tree_model.specs.Tree.{Tree}
use Rattle.tree_model.specs.Put.{overlaps}
use Rattle.tree_model.specs.Write.{Write, proposed}
use Rattle.tree_model.proofs.Writes.{proposed-none}
use Rattle.evaluator.specs.Identity.{Identity}
use Rattle.rules_reader.specs.Book.{Book}
use Rattle.listeners.specs.declared.limits.TheConstants.{MAX_LISTENERS}
use Rattle.listeners.specs.Table.{has_id}
use Rattle.rtdb_model.specs.declared.limits.TheConstants.{MAX_SESSIONS, MAX_ACTIONS}
use Rattle.rtdb_model.specs.declared.event.Event.{Event}
use Rattle.rtdb_model.specs.declared.event.Event.TheVariants.{Open, Close, SignIn, SignOut, Get, Set, Remove, Update, Listen, Unlisten, Poll, Tick, Deploy, OnSet, OnRemove, OnUpdate, OnCancel, Leave, RunNext}
use Rattle.rtdb_model.specs.declared.reply.Refusal.{Refusal}
use Rattle.rtdb_model.specs.declared.reply.Refusal.TheVariants.{SessionOpen, TooManySessions, NoSession, NotAdmin, EmptyUpdate, Overlap, DuplicateId, TooManyListeners, NoListener, Leaving, TooManyActions, NotLeaving, NoMemory}
use Rattle.rtdb_model.specs.declared.reply.Reply.{Reply}
use Rattle.rtdb_model.specs.declared.reply.Reply.TheVariants.{Done, Refused}
use Rattle.rtdb_model.specs.State.{Action, State, opening, is_open, is_leaving, identity_of, listeners_of, actions_of, is_admin}
use Rattle.rtdb_model.specs.Step.{Outcome, refused, unless_refused, denial, verdict_on, read_refusal, write_refusal, signs, written_to, removal, writes_of, keeps, run_by, runs_first, wants_presence, unbarred, outcome, Step, Call, Run}
use Rattle.rtdb_model.specs.Marks.{Taken, steps_after}
use Rattle.rtdb_laws.specs.Stored.{made_by, stored}
use Rattle.rtdb_laws.proofs.Acted.{AreWaiting, step_acts, opening_acts}

nothing_made : (event : Event) (refusal : Refusal) (actions : List Action) → made_by event (Refused refusal) actions ≡ []
nothing_made RunNext refusal actions = refl
nothing_made event refusal actions = refl

module _ (old : State) (now n : ℕ) where
  -- the outcome leaves the tree in which what it made was put
  record Stores (event : Event) (o : Outcome) : Type 0 where
    is : o.after.tree ≡ proposed old.tree (made_by event o.reply (actions_of old n)) now

  -- it makes nothing, and leaves the tree
  same_stores : (event : Event) (o : Outcome) → made_by event o.reply (actions_of old n) ≡ [] → o.after.tree ≡ old.tree → Stores event o
  same_stores event o none same = record { is = same ∙ sym (ap (λ (ws : List Write). proposed old.tree ws now) none ∙ proposed-none old.tree now) }

  refused_stores : (event : Event) (refusal : Refusal) → Stores event (refused old refusal)
  refused_stores event refusal = same_stores event (refused old refusal) (nothing_made event refusal (actions_of old n)) refl

  test_stores : (event : Event) (b : Bool) (refusal : Refusal) (o : Outcome) → Stores event o → Stores event (cond b (refused old refusal) o)
  test_stores event true refusal o h = refused_stores event refusal
  test_stores event false refusal o h = h

  unless_stores : (event : Event) (r : Option Refusal) (o : Outcome) → Stores event o → Stores event (unless_refused old r o)
  unless_stores event None o h = h
  unless_stores event (Some refusal) o h = refused_stores event refusal

  open_stores : (event : Event) (o : Outcome) → Stores event o → Stores event (cond (not (is_open old n)) (refused old NoSession) o)
  open_stores event o h = test_stores event (not (is_open old n)) NoSession o h

  make_stores : (event : Event) (writes : List Write) → made_by event Done (actions_of old n) ≡ writes → Stores event (unless_refused old (write_refusal old now n writes) (record { reply = Done; after = written_to old now writes }))
  make_stores event writes is = unless_stores event (write_refusal old now n writes) _ record { is = ap (λ (ws : List Write). proposed old.tree ws now) (sym is) }

  keep_stores : (event : Event) (writes : List Write) → made_by event Done (actions_of old n) ≡ [] → Stores event (keeps old now n writes)
  keep_stores event writes none =
      test_stores event (leb MAX_ACTIONS (length (actions_of old n))) TooManyActions _
      (unless_stores event (denial (verdict_on old now n writes)) _ (same_stores event _ none refl))

  sign_stores : (event : Event) (who : Option Identity) → made_by event Done (actions_of old n) ≡ [] → Stores event (signs old now n who)
  sign_stores event who none = open_stores event _ (same_stores event _ none refl)

  run_stores : (action : Action) (others : List Action) → actions_of old n ≡ action ∷ others → (r : Option Refusal) → Stores RunNext (run_by old now n (writes_of action) others r)
  run_stores action others first None = record { is = ap (λ (actions : List Action). proposed old.tree (made_by RunNext (run_by old now n (writes_of action) others None).reply actions) now) (sym first) }
  run_stores action others first (Some refusal) = same_stores RunNext (run_by old now n (writes_of action) others (Some refusal)) refl refl

  first_stores : (actions : List Action) → actions_of old n ≡ actions → Stores RunNext (runs_first old now n actions)
  first_stores [] first = same_stores RunNext (runs_first old now n []) refl refl
  first_stores (action ∷ others) first = run_stores action others first (write_refusal old now n (writes_of action))

  unbarred_stores : (event : Event) → Stores event (unbarred old now n event)
  unbarred_stores Open =
      test_stores Open (is_open old n) SessionOpen _
      (test_stores Open (leb MAX_SESSIONS (map_of.len old.sessions)) TooManySessions _ (same_stores Open _ refl refl))
  unbarred_stores Close = open_stores Close _ (same_stores Close _ refl refl)
  unbarred_stores (SignIn who) = sign_stores (SignIn who) (Some who) refl
  unbarred_stores SignOut = sign_stores SignOut None refl
  unbarred_stores (Get path query) =
      open_stores (Get path query) _ (unless_stores (Get path query) (read_refusal old now n path query) _ (same_stores (Get path query) _ refl refl))
  unbarred_stores (Set write) = open_stores (Set write) _ (make_stores (Set write) (write ∷ []) refl)
  unbarred_stores (Remove path) = open_stores (Remove path) _ (make_stores (Remove path) (removal path ∷ []) refl)
  unbarred_stores (Update writes) =
      open_stores (Update writes) _
      (test_stores (Update writes) (length writes == 0) EmptyUpdate _
      (test_stores (Update writes) (overlaps writes) Overlap _ (make_stores (Update writes) writes refl)))
  unbarred_stores (Listen id path query) =
      let event = Listen id path query in
      open_stores event _
      (test_stores event (has_id id (listeners_of old n)) DuplicateId _
      (test_stores event (leb MAX_LISTENERS (length (listeners_of old n))) TooManyListeners _
      (unless_stores event (read_refusal old now n path query) _ (same_stores event _ refl refl))))
  unbarred_stores (Unlisten id) =
      open_stores (Unlisten id) _
      (test_stores (Unlisten id) (not (has_id id (listeners_of old n))) NoListener _ (same_stores (Unlisten id) _ refl refl))
  unbarred_stores Poll = open_stores Poll _ (same_stores Poll _ refl refl)
  unbarred_stores Tick = same_stores Tick _ refl refl
  unbarred_stores (Deploy rules) =
      open_stores (Deploy rules) _
      (test_stores (Deploy rules) (not (is_admin (identity_of old n))) NotAdmin _ (same_stores (Deploy rules) _ refl refl))
  unbarred_stores (OnSet write) = open_stores (OnSet write) _ (keep_stores (OnSet write) (write ∷ []) refl)
  unbarred_stores (OnRemove path) = open_stores (OnRemove path) _ (keep_stores (OnRemove path) (removal path ∷ []) refl)
  unbarred_stores (OnUpdate writes) =
      open_stores (OnUpdate writes) _
      (test_stores (OnUpdate writes) (length writes == 0) EmptyUpdate _
      (test_stores (OnUpdate writes) (overlaps writes) Overlap _ (keep_stores (OnUpdate writes) writes refl)))
  unbarred_stores (OnCancel path) = open_stores (OnCancel path) _ (same_stores (OnCancel path) _ refl refl)
  unbarred_stores Leave = open_stores Leave _ (same_stores Leave _ refl refl)
  unbarred_stores RunNext =
      open_stores RunNext _
      (test_stores RunNext (not (is_leaving old n)) NotLeaving _ (first_stores (actions_of old n) refl))

  outcome_stores : (event : Event) → Stores event (outcome old now n event)
  outcome_stores event = test_stores event (wants_presence event && is_leaving old n) Leaving _ (unbarred_stores event)

step_stores : (old : State) (call : Call) (reply : Reply) (new : State) → Step old call.now call.session call.event reply new → new.tree ≡ proposed old.tree (made_by call.event reply (actions_of old call.session)) call.now
unfolding Step
step_stores old call reply new (inl h) = subst (λ (o : Outcome). o.after.tree ≡ proposed old.tree (made_by call.event o.reply (actions_of old call.session)) call.now) h (outcome_stores old call.now call.session call.event).is
step_stores old call reply new (inr h) =
    ap (λ (s : State). s.tree) h.1
    ∙ (refused_stores old call.now call.session call.event NoMemory).is
    ∙ ap (λ (r : Reply). proposed old.tree (made_by call.event r (actions_of old call.session)) call.now) (sym h.0)

-- the tree of a state is what is stored after these steps
run_stores_so : (tree : Tree) (earlier : List Taken) (old : State) (calls : List Call) (replies : List Reply) (new : State) (run : Run old calls replies new) → AreWaiting old earlier → old.tree ≡ stored tree earlier → new.tree ≡ stored tree (steps_after earlier old calls replies new run)
run_stores_so tree earlier old [] [] new run waits before = ap (λ (s : State). s.tree) run ∙ before
run_stores_so tree earlier old [] (reply ∷ replies) new run waits before = absurd run
run_stores_so tree earlier old (call ∷ calls) [] new run waits before = absurd run
run_stores_so tree earlier old (call ∷ calls) (reply ∷ replies) new run waits before =
    run_stores_so tree (record { old = old; call = call; reply = reply; new = run.0 } ∷ earlier) run.0 calls replies new run.2
    (step_acts old call reply run.0 earlier waits run.1)
    (step_stores old call reply run.0 run.1
    ∙ ap (λ (t : Tree). proposed t (made_by call.event reply (actions_of old call.session)) call.now) before
    ∙ ap (λ (actions : List Action). proposed (stored tree earlier) (made_by call.event reply actions) call.now) (sym (waits call.session)))

pub stored_so : (rules : Book) (tree : Tree) (calls : List Call) (replies : List Reply) (new : State) (run : Run (opening rules tree) calls replies new) → new.tree ≡ stored tree (steps_after [] (opening rules tree) calls replies new run)
stored_so rules tree calls replies new run = run_stores_so tree [] (opening rules tree) calls replies new run (opening_acts rules tree) refl
