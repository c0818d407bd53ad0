-- What each outcome leaves.
use Rattle.std.proofs.Common.{◌≡◌, ◌≢◌, ◌==◌, ◌&&◌, ◌∙◌, ℕ, Bool, true, false, cond, not, List, [], ◌∷◌, length, Option, Some, None, option_and_then, refl, sym, ap}
use Rattle.std.specs.Prelude.{nat_le}
use Rattle.std.specs.FinMap as map_of
use Rattle.std.proofs.lemmas.Bool.{eqb-true}
use Rattle.std.specs.Ordering.{nat_cmp, eq_by_cmp}
use Rattle.std.specs.Cmp.{nat_cmp_total, unsigned_tied}
use Rattle.tree_model.specs.Path.{Path}
use Rattle.tree_model.specs.Tree.{Tree, non_null, count}
use Rattle.tree_model.specs.Put.{overlaps}
use Rattle.tree_model.specs.Write.{Write}
use Rattle.judge.specs.declared.verdict.Verdict.{Verdict}
use Rattle.judge.specs.declared.verdict.Verdict.TheVariants as verdicts
use Rattle.judge.specs.Tests.{read_verdict}
use Rattle.evaluator.specs.Identity.{Identity}
use Rattle.rules_reader.specs.Book.{Book}
use Rattle.listeners.specs.declared.limits.TheConstants.{MAX_LISTENERS}
use Rattle.listeners.specs.Query.{Query}
use Rattle.listeners.specs.Table.{Listener, has_id, without_id}
use Rattle.rtdb_model.specs.Headline.{is_done, rules_by, identity_by}
use Rattle.rtdb_model.specs.declared.limits.TheConstants.{MAX_SESSIONS, MAX_ACTIONS, MAX_LOCATIONS}
use Rattle.rtdb_model.specs.declared.event.Event.{Event}
use Rattle.rtdb_model.specs.declared.event.Event.TheVariants.{Open, Close, SignIn, SignOut, Get, Set, Remove, Update, Listen, Unlisten, Poll, Tick, Deploy, OnSet, OnRemove, OnUpdate, OnCancel, Leave, RunNext}
use Rattle.rtdb_model.specs.declared.reply.Refusal.{Refusal}
use Rattle.rtdb_model.specs.declared.reply.Refusal.TheVariants.{SessionOpen, TooManySessions, NoSession, NotAdmin, EmptyUpdate, Overlap, DuplicateId, TooManyListeners, NoListener, Leaving, TooManyActions, NotLeaving, TreeFull, NoMemory, Spent}
use Rattle.rtdb_model.specs.declared.reply.Reply.{Reply}
use Rattle.rtdb_model.specs.declared.reply.Reply.TheVariants.{Done, Value, News, Refused, Ran, Closed}
use Rattle.rtdb_model.specs.declared.reply.Ran.TheVariants.{Empty, Applied, Skipped}
use Rattle.rtdb_model.specs.State.{Action, Session, Sessions, State, fresh, is_open, is_leaving, actions_of, identity_of, listeners_of, is_admin, scene_at}
use Rattle.rtdb_model.specs.Rejudged.{asked_for, selected_at, all_rejudged}
use Rattle.rtdb_model.specs.Step.{Outcome, refused, unless_refused, denial, full, or_full, tree_with, verdict_on, write_refusal, read_refusal, opened, opens, closed, closes, with_session, own_again, signed, signs, deploys, value_at, gets, written_to, makes, sets, removal, updates, listens, unlistens, news_of, polls, with_actions, with_action, keeps, keeps_one, keeps_update, without_actions, cancels, departing, leaves, writes_of, run_by, runs_first, runs, wants_presence, unbarred, outcome}
use Rattle.rtdb_model.proofs.Slots.{identity-with, identity-again, identity-actions, identity-departing}

-- who is signed in on each session after an event of one that was answered so
abbrev SignsOnly : State → ℕ → Event → Outcome → Type 0
SignsOnly old session event o = (other : ℕ) → identity_of o.after other ≡ cond (is_done o.reply && other == session) (identity_by event (identity_of old other)) (identity_of old other)

-- it is no want of memory, and not that as many events were answered as may be
abbrev pub IsOwn : Reply → Type 0
IsOwn reply = (reply ≢ Refused NoMemory) × (reply ≢ Refused Spent)

-- a refusal leaves the state, each outcome is its event's own, and rules and identities are as the event says
pub record IsFine (old : State) (session : ℕ) (event : Event) (o : Outcome) : Type 0 where
  pub stays : (refusal : Refusal) → o.reply ≡ Refused refusal → o.after ≡ old
  pub answers : IsOwn o.reply
  pub rules : o.after.rules ≡ cond (is_done o.reply) (rules_by event old.rules) old.rules
  pub identities : SignsOnly old session event o

fine_refusal : (old : State) (session : ℕ) (event : Event) (refusal : Refusal) → IsOwn (Refused refusal) → IsFine old session event (refused old refusal)
fine_refusal old session event refusal other = record { stays = λ _ _. refl; answers = other; rules = refl; identities = λ _. refl }

fine_done : (old : State) (session : ℕ) (event : Event) (new : State) → new.rules ≡ rules_by event old.rules → SignsOnly old session event (record { reply = Done; after = new }) → IsFine old session event (record { reply = Done; after = new })
fine_done old session event new same signs = record { stays = λ refusal e. absurd (never refusal e); answers = (never NoMemory, never Spent); rules = same; identities = signs }
  where
    never : (refusal : Refusal) → Done ≡ Refused refusal → ⊥
    never refusal e = cc

-- an answer that is neither done nor a refusal
fine_answer : (old : State) (session : ℕ) (event : Event) (o : Outcome) → ((refusal : Refusal) → o.reply ≡ Refused refusal → ⊥) → is_done o.reply ≡ false → o.after.rules ≡ old.rules → ((other : ℕ) → identity_of o.after other ≡ identity_of old other) → IsFine old session event o
fine_answer old session event o never none same signs = record {
  stays = λ refusal e. absurd (never refusal e);
  answers = (never NoMemory, never Spent);
  rules = same ∙ ap (λ (b : Bool). cond b (rules_by event old.rules) old.rules) (sym none);
  identities = λ other. signs other ∙ ap (λ (b : Bool). cond (b && other == session) (identity_by event (identity_of old other)) (identity_of old other)) (sym none);
}

fine_value : (old : State) (session : ℕ) (event : Event) (tree : Option Tree) → IsFine old session event (record { reply = Value tree; after = old })
fine_value old session event tree = fine_answer old session event (record { reply = Value tree; after = old }) (λ refusal e. cc) refl refl (λ _. refl)

either : (old : State) (session : ℕ) (event : Event) (b : Bool) (o other : Outcome) → IsFine old session event o → IsFine old session event other → IsFine old session event (cond b o other)
either old session event true o other h g = h
either old session event false o other h g = g

-- ---- sessions, one of which is another

at_session : (old : State) (session other : ℕ) (m : Sessions) (v : Option Session) → map_of.get m other ≡ cond (eq_by_cmp nat_cmp other session) v (map_of.get old.sessions other) → option_and_then (λ (one : Session). one.identity) (map_of.get m other) ≡ cond (other == session) (option_and_then (λ (one : Session). one.identity) v) (identity_of old other)
at_session old session other m v is =
    ap (λ (o : Option Session). option_and_then (λ (one : Session). one.identity) o) (is ∙ ap (λ (b : Bool). cond b v (map_of.get old.sessions other)) (unsigned_tied other session))
    ∙ push (other == session)
  where
    push : (b : Bool) → option_and_then (λ (one : Session). one.identity) (cond b v (map_of.get old.sessions other)) ≡ cond b (option_and_then (λ (one : Session). one.identity) v) (identity_of old other)
    push true = refl
    push false = refl

-- nobody is signed in or out
signs_nobody : (b : Bool) (who : Option Identity) → who ≡ cond b who who
signs_nobody true who = refl
signs_nobody false who = refl

-- ---- each refusal of the rules or of room is its event's own

abbrev WantsNone : Option Refusal → Type 0
WantsNone o = (refusal : Refusal) → o ≡ Some refusal → IsOwn (Refused refusal)

denial_wants_none : (v : Verdict) → WantsNone (denial v)
denial_wants_none verdicts.Granted refusal e = (λ f. cc, λ f. cc)
denial_wants_none (verdicts.ReadDenied named) refusal e = (λ f. cc, λ f. cc)
denial_wants_none (verdicts.WriteDenied at named) refusal e = (λ f. cc, λ f. cc)
denial_wants_none (verdicts.ValidateDenied at pattern why) refusal e = (λ f. cc, λ f. cc)

full_wants_none : (tree : Tree) → WantsNone (full tree)
full_wants_none tree = by_room (nat_le (count tree) MAX_LOCATIONS)
  where
    by_room : (b : Bool) → WantsNone (cond b None (Some TreeFull))
    by_room true refusal e = (λ f. cc, λ f. cc)
    by_room false refusal e = (λ f. cc, λ f. cc)

or_full_wants_none : (o : Option Refusal) (tree : Tree) → WantsNone o → WantsNone (or_full o tree)
or_full_wants_none None tree h = full_wants_none tree
or_full_wants_none (Some refusal) tree h = h

write_wants_none : (old : State) (now session : ℕ) (writes : List Write) → WantsNone (write_refusal old now session writes)
unfolding write_refusal
write_wants_none old now session writes = or_full_wants_none (denial (verdict_on old now session writes)) (tree_with old now writes) (denial_wants_none (verdict_on old now session writes))

read_wants_none : (old : State) (now session : ℕ) (path : Path) (query : Option Query) → WantsNone (read_refusal old now session path query)
unfolding read_refusal
read_wants_none old now session path query = denial_wants_none (read_verdict (scene_at old now session) (asked_for query) path)

unless : (old : State) (session : ℕ) (event : Event) (o : Option Refusal) (other : Outcome) → WantsNone o → IsFine old session event other → IsFine old session event (unless_refused old o other)
unless old session event None other h g = g
unless old session event (Some refusal) other h g = fine_refusal old session event refusal (h refusal refl)

-- ---- each event

module _ (old : State) (session : ℕ) where
  closed_refused : (event : Event) → IsFine old session event (refused old NoSession)
  closed_refused event = fine_refusal old session event NoSession (λ e. cc, λ e. cc)

  fine_open : IsFine old session Open (opens old session)
  fine_open =
      either old session Open (is_open old session) _ _ (fine_refusal old session Open SessionOpen (λ e. cc, λ e. cc))
      (either old session Open (nat_le MAX_SESSIONS (map_of.len old.sessions)) _ _ (fine_refusal old session Open TooManySessions (λ e. cc, λ e. cc))
      (fine_done old session Open (opened old session) refl (λ other. at_session old session other (opened old session).sessions (Some fresh) (map_of.get-insert nat_cmp_total old.sessions session fresh other))))

  fine_close : IsFine old session Close (closes old session)
  fine_close =
      either old session Close (not (is_open old session)) _ _ (closed_refused Close)
      (record {
        stays = λ refusal e. cc;
        answers = (λ e. cc, λ e. cc);
        rules = refl;
        identities = λ other. at_session old session other (closed old session).sessions None (map_of.get-remove nat_cmp_total old.sessions session other);
      })

  fine_sign : (now : ℕ) (event : Event) (who : Option Identity) → rules_by event old.rules ≡ old.rules → ((before : Option Identity) → identity_by event before ≡ who) → IsFine old session event (signs old now session who)
  fine_sign now event who keeps leaves =
      either old session event (not (is_open old session)) _ _ (closed_refused event)
      (fine_done old session event (signed old now session who) (sym keeps) (λ other. identity-with old session who (own_again old now session who) other ∙ ap (λ (o : Option Identity). cond (other == session) o (identity_of old other)) (sym (leaves (identity_of old other)))))

  fine_get : (now : ℕ) (path : Path) (query : Option Query) → IsFine old session (Get path query) (gets old now session path query)
  fine_get now path query =
      either old session (Get path query) (not (is_open old session)) _ _ (closed_refused (Get path query))
      (unless old session (Get path query) (read_refusal old now session path query) (value_at old path query) (read_wants_none old now session path query) (fine_value old session (Get path query) (non_null (selected_at old.tree path query))))

  -- all listeners are judged again in this state
  fine_all : (now : ℕ) (event : Event) (mid : State) → mid.sessions ≡ old.sessions → mid.rules ≡ rules_by event old.rules → ((before : Option Identity) → identity_by event before ≡ before) → IsFine old session event (record { reply = Done; after = all_rejudged old.tree now mid })
  fine_all now event mid same keeps leaves =
      fine_done old session event (all_rejudged old.tree now mid) keeps (λ other.
      identity-again old.tree now mid other
      ∙ ap (λ (m : Sessions). identity_of (record { tree = mid.tree; rules = mid.rules; sessions = m }) other) same
      ∙ signs_nobody (other == session) (identity_of old other)
      ∙ ap (λ (o : Option Identity). cond (other == session) o (identity_of old other)) (sym (leaves (identity_of old other))))

  fine_makes : (now : ℕ) (event : Event) (writes : List Write) → rules_by event old.rules ≡ old.rules → ((before : Option Identity) → identity_by event before ≡ before) → IsFine old session event (makes old now session writes)
  fine_makes now event writes keeps leaves =
      unless old session event (write_refusal old now session writes) (record { reply = Done; after = written_to old now writes }) (write_wants_none old now session writes)
      (fine_all now event (record { tree = tree_with old now writes; rules = old.rules; sessions = old.sessions }) refl (sym keeps) leaves)

  fine_set : (now : ℕ) (event : Event) (write : Write) → rules_by event old.rules ≡ old.rules → ((before : Option Identity) → identity_by event before ≡ before) → IsFine old session event (sets old now session write)
  fine_set now event write keeps leaves =
      either old session event (not (is_open old session)) _ _ (closed_refused event) (fine_makes now event (write ∷ []) keeps leaves)

  fine_update : (now : ℕ) (writes : List Write) → IsFine old session (Update writes) (updates old now session writes)
  fine_update now writes =
      either old session (Update writes) (not (is_open old session)) _ _ (closed_refused (Update writes))
      (either old session (Update writes) (length writes == 0) _ _ (fine_refusal old session (Update writes) EmptyUpdate (λ e. cc, λ e. cc))
      (either old session (Update writes) (overlaps writes) _ _ (fine_refusal old session (Update writes) Overlap (λ e. cc, λ e. cc)) (fine_makes now (Update writes) writes refl (λ _. refl))))

  fine_deploy : (now : ℕ) (rules : Book) → IsFine old session (Deploy rules) (deploys old now session rules)
  fine_deploy now rules =
      either old session (Deploy rules) (not (is_open old session)) _ _ (closed_refused (Deploy rules))
      (either old session (Deploy rules) (not (is_admin (identity_of old session))) _ _ (fine_refusal old session (Deploy rules) NotAdmin (λ e. cc, λ e. cc))
      (fine_all now (Deploy rules) (record { tree = old.tree; rules = rules; sessions = old.sessions }) refl refl (λ _. refl)))

  -- what a session listens to changes, and not who is signed in on it
  fine_own : (event : Event) (reply : Reply) (mine : List Listener) → ((refusal : Refusal) → reply ≡ Refused refusal → ⊥) → rules_by event old.rules ≡ old.rules → ((before : Option Identity) → identity_by event before ≡ before) → IsFine old session event (record { reply = reply; after = with_session old session (identity_of old session) mine })
  fine_own event reply mine never keeps leaves = record {
    stays = λ refusal e. absurd (never refusal e);
    answers = (never NoMemory, never Spent);
    rules = rules_are (is_done reply);
    identities = λ other. identity-with old session (identity_of old session) mine other ∙ as_before other (other == session) refl ∙ by_done (is_done reply && other == session) other;
  }
    where
      rules_are : (b : Bool) → old.rules ≡ cond b (rules_by event old.rules) old.rules
      rules_are true = sym keeps
      rules_are false = refl

      as_before : (other : ℕ) (b : Bool) → other == session ≡ b → cond b (identity_of old session) (identity_of old other) ≡ identity_of old other
      as_before other true e = ap (identity_of old) (sym (eqb-true other session e))
      as_before other false e = refl

      by_done : (b : Bool) (other : ℕ) → identity_of old other ≡ cond b (identity_by event (identity_of old other)) (identity_of old other)
      by_done true other = sym (leaves (identity_of old other))
      by_done false other = refl

  fine_listen : (now : ℕ) (id : List ℕ) (path : Path) (query : Option Query) → IsFine old session (Listen id path query) (listens old now session id path query)
  fine_listen now id path query =
      let event = Listen id path query in
      either old session event (not (is_open old session)) _ _ (closed_refused event)
      (either old session event (has_id id (listeners_of old session)) _ _ (fine_refusal old session event DuplicateId (λ e. cc, λ e. cc))
      (either old session event (nat_le MAX_LISTENERS (length (listeners_of old session))) _ _ (fine_refusal old session event TooManyListeners (λ e. cc, λ e. cc))
      (unless old session event (read_refusal old now session path query) _ (read_wants_none old now session path query)
      (fine_own event (Value (non_null (selected_at old.tree path query))) _ (λ refusal e. cc) refl (λ _. refl)))))

  fine_unlisten : (id : List ℕ) → IsFine old session (Unlisten id) (unlistens old session id)
  fine_unlisten id =
      either old session (Unlisten id) (not (is_open old session)) _ _ (closed_refused (Unlisten id))
      (either old session (Unlisten id) (not (has_id id (listeners_of old session))) _ _ (fine_refusal old session (Unlisten id) NoListener (λ e. cc, λ e. cc))
      (fine_own (Unlisten id) Done (without_id id (listeners_of old session)) (λ refusal e. cc) refl (λ _. refl)))

  fine_poll : (now : ℕ) → IsFine old session Poll (polls old now session)
  fine_poll now =
      either old session Poll (not (is_open old session)) _ _ (closed_refused Poll)
      (fine_own Poll (News (news_of old.tree (own_again old now session (identity_of old session)))) _ (λ refusal e. cc) refl (λ _. refl))

  -- ---- what is written when a session goes

  -- nothing but a session's actions, or its leaving, is another
  fine_quiet : (event : Event) (new : State) → rules_by event old.rules ≡ old.rules → ((before : Option Identity) → identity_by event before ≡ before) → new.rules ≡ old.rules → ((other : ℕ) → identity_of new other ≡ identity_of old other) → IsFine old session event (record { reply = Done; after = new })
  fine_quiet event new keeps leaves rules same =
      fine_done old session event new (rules ∙ sym keeps) (λ other.
      same other ∙ signs_nobody (other == session) (identity_of old other)
      ∙ ap (λ (o : Option Identity). cond (other == session) o (identity_of old other)) (sym (leaves (identity_of old other))))

  fine_keeps : (now : ℕ) (event : Event) (writes : List Write) → rules_by event old.rules ≡ old.rules → ((before : Option Identity) → identity_by event before ≡ before) → IsFine old session event (keeps old now session writes)
  fine_keeps now event writes same leaves =
      either old session event (nat_le MAX_ACTIONS (length (actions_of old session))) _ _ (fine_refusal old session event TooManyActions (λ e. cc, λ e. cc))
      (unless old session event (denial (verdict_on old now session writes)) _ (denial_wants_none (verdict_on old now session writes))
      (fine_quiet event (with_action old session writes) same leaves refl (λ other. identity-actions old session other _)))

  fine_keeps_one : (now : ℕ) (event : Event) (write : Write) → rules_by event old.rules ≡ old.rules → ((before : Option Identity) → identity_by event before ≡ before) → IsFine old session event (keeps_one old now session write)
  fine_keeps_one now event write same leaves =
      either old session event (not (is_open old session)) _ _ (closed_refused event) (fine_keeps now event (write ∷ []) same leaves)

  fine_keeps_update : (now : ℕ) (writes : List Write) → IsFine old session (OnUpdate writes) (keeps_update old now session writes)
  fine_keeps_update now writes =
      let event = OnUpdate writes in
      either old session event (not (is_open old session)) _ _ (closed_refused event)
      (either old session event (length writes == 0) _ _ (fine_refusal old session event EmptyUpdate (λ e. cc, λ e. cc))
      (either old session event (overlaps writes) _ _ (fine_refusal old session event Overlap (λ e. cc, λ e. cc)) (fine_keeps now event writes refl (λ _. refl))))

  fine_cancels : (path : Path) → IsFine old session (OnCancel path) (cancels old session path)
  fine_cancels path =
      either old session (OnCancel path) (not (is_open old session)) _ _ (closed_refused (OnCancel path))
      (fine_quiet (OnCancel path) (without_actions old session path) refl (λ _. refl) refl (λ other. identity-actions old session other _))

  fine_leaves : IsFine old session Leave (leaves old session)
  fine_leaves =
      either old session Leave (not (is_open old session)) _ _ (closed_refused Leave)
      (fine_quiet Leave (departing old session) refl (λ _. refl) refl (λ other. identity-departing old session other))

  fine_run_by : (now : ℕ) (writes : List Write) (others : List Action) (o : Option Refusal) → IsFine old session RunNext (run_by old now session writes others o)
  fine_run_by now writes others None =
      fine_answer old session RunNext (run_by old now session writes others None) (λ refusal e. cc) refl refl (λ other. identity-actions (written_to old now writes) session other others ∙ identity-again old.tree now (record { tree = tree_with old now writes; rules = old.rules; sessions = old.sessions }) other)
  fine_run_by now writes others (Some refusal) =
      fine_answer old session RunNext (run_by old now session writes others (Some refusal)) (λ other e. cc) refl refl (λ other. identity-actions old session other others)

  fine_first : (now : ℕ) (actions : List Action) → IsFine old session RunNext (runs_first old now session actions)
  fine_first now [] = fine_answer old session RunNext (runs_first old now session []) (λ refusal e. cc) refl refl (λ _. refl)
  fine_first now (action ∷ others) = fine_run_by now (writes_of action) others (write_refusal old now session (writes_of action))

  fine_runs : (now : ℕ) → IsFine old session RunNext (runs old now session)
  fine_runs now =
      either old session RunNext (not (is_open old session)) _ _ (closed_refused RunNext)
      (either old session RunNext (not (is_leaving old session)) _ _ (fine_refusal old session RunNext NotLeaving (λ e. cc, λ e. cc)) (fine_first now (actions_of old session)))

pub fine_unbarred : (old : State) (now session : ℕ) (event : Event) → IsFine old session event (unbarred old now session event)
fine_unbarred old now session Open = fine_open old session
fine_unbarred old now session Close = fine_close old session
fine_unbarred old now session (SignIn who) = fine_sign old session now (SignIn who) (Some who) refl (λ _. refl)
fine_unbarred old now session SignOut = fine_sign old session now SignOut None refl (λ _. refl)
fine_unbarred old now session (Get path query) = fine_get old session now path query
fine_unbarred old now session (Set write) = fine_set old session now (Set write) write refl (λ _. refl)
fine_unbarred old now session (Remove path) = fine_set old session now (Remove path) (removal path) refl (λ _. refl)
fine_unbarred old now session (Update writes) = fine_update old session now writes
fine_unbarred old now session (Listen id path query) = fine_listen old session now id path query
fine_unbarred old now session (Unlisten id) = fine_unlisten old session id
fine_unbarred old now session Poll = fine_poll old session now
fine_unbarred old now session Tick = fine_all old session now Tick old refl refl (λ _. refl)
fine_unbarred old now session (Deploy rules) = fine_deploy old session now rules
fine_unbarred old now session (OnSet write) = fine_keeps_one old session now (OnSet write) write refl (λ _. refl)
fine_unbarred old now session (OnRemove path) = fine_keeps_one old session now (OnRemove path) (removal path) refl (λ _. refl)
fine_unbarred old now session (OnUpdate writes) = fine_keeps_update old session now writes
fine_unbarred old now session (OnCancel path) = fine_cancels old session path
fine_unbarred old now session Leave = fine_leaves old session
fine_unbarred old now session RunNext = fine_runs old session now

pub fine : (old : State) (now session : ℕ) (event : Event) → IsFine old session event (outcome old now session event)
fine old now session event =
    either old session event (wants_presence event && is_leaving old session) _ _ (fine_refusal old session event Leaving (λ e. cc, λ e. cc)) (fine_unbarred old now session event)
