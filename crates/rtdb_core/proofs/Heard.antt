-- Each step leaves no live listener whose read was not granted.
use Rattle.std.proofs.Common.{◌≡◌, ℕ, Bool, true, false, not, ◌&&◌, cond, eqb, leb, List, [], ◌∷◌, ◌++◌, length, get_or, Option, Some, None, inl, inr, sym, ap, subst, ◌∙◌, refl}
use Rattle.std.proofs.lemmas.List.Elements.{All-nil, All-push, All-map, All-filter}
use Rattle.std.specs.Prelude.{◌==◌, filter, bytes_eq}
use Rattle.std.specs.Cmp.{second_so}
use Rattle.std.specs.FinMap as map_of
use Rattle.std.specs.Ordering.{nat_cmp}
use Rattle.tree_model.specs.Path.{Path}
use Rattle.tree_model.specs.Tree.{Tree}
use Rattle.tree_model.specs.Put.{overlaps}
use Rattle.tree_model.specs.Write.{Write}
use Rattle.evaluator.specs.Identity.{Identity}
use Rattle.evaluator.specs.Asked.{Asked}
use Rattle.rules_reader.specs.Book.{Book}
use Rattle.rules_reader.specs.declared.kind.Kind.TheVariants.{Read}
use Rattle.judge.specs.Question.{Scene, reading}
use Rattle.judge.specs.Judging.{MayRead, IsReadVerdict}
use Rattle.judge.specs.Tests.{read_verdict}
use Rattle.judge.specs.declared.verdict.Verdict.{Verdict}
use Rattle.judge.specs.declared.verdict.Verdict.TheVariants as verdicts
use Rattle.judge.proofs.Verdicts.{grants_decided, reads_decided}
use Rattle.listeners.specs.declared.limits.TheConstants.{MAX_LISTENERS}
use Rattle.listeners.specs.Query.{Query}
use Rattle.listeners.specs.Table.{Listener, begun, has_id, without_id, unmarked, taken}
use Rattle.rtdb_model.specs.declared.limits.TheConstants.{MAX_SESSIONS, MAX_ACTIONS}
use Rattle.rtdb_model.specs.declared.event.Event.{Event}
use Rattle.rtdb_model.specs.declared.event.Event.TheVariants.{Open, Close, SignIn, SignOut, Get, Set, Remove, Update, Listen, Unlisten, Poll, Tick, Deploy, OnSet, OnRemove, OnUpdate, OnCancel, Leave, RunNext}
use Rattle.rtdb_model.specs.declared.reply.Refusal.{Refusal}
use Rattle.rtdb_model.specs.declared.reply.Refusal.TheVariants.{SessionOpen, TooManySessions, NoSession, NotAdmin, EmptyUpdate, Overlap, DuplicateId, TooManyListeners, NoListener, Leaving, TooManyActions, NotLeaving}
use Rattle.rtdb_model.specs.declared.reply.Reply.{Reply}
use Rattle.rtdb_model.specs.State.{Action, State, Session, opening, fresh, session_in, is_open, is_leaving, identity_of, listeners_in, listeners_of, actions_of, is_admin, scene_at}
use Rattle.rtdb_model.specs.Rejudged.{asked_for, hears, moves, judged, judged_again, all_rejudged}
use Rattle.rtdb_core.specs.Resumed.{going_on, resumed}
use Rattle.rtdb_model.specs.Step.{Outcome, refused, unless_refused, denial, verdict_on, read_refusal, write_refusal, closed, with_session, own_again, signs, tree_with, written_to, makes, sets, removal, listens, writes_of, with_actions, with_action, keeps, keeps_one, departing, run_by, runs_first, wants_presence, unbarred, outcome, Step}
use Rattle.rtdb_core.specs.Working.Fates.{scene_by}
use Rattle.rtdb_core.specs.Working.Heard.{IsHeard, AreHeard, AllHeard}
use Rattle.rtdb_model.proofs.Slots.{who_in, put_at, get-put_at, identity-in, listeners-in, listeners-without, identity-without, listeners-again, identity-again}
use Rattle.rtdb_model.proofs.Histories.{judged_is}

-- ---- one listener

-- one that is judged is live only where its read is granted
judged_heard : (rules : Book) (tree : Tree) (who : Option Identity) (now : ℕ) (moved : Bool) (l : Listener) → IsHeard rules tree who (judged (hears (scene_by rules tree now who) l.path l.query) moved l)
judged_heard rules tree who now moved l =
    subst (IsHeard rules tree who) (sym (judged_is (hears (scene_by rules tree now who) l.path l.query) moved l)) (λ alive. (now, second_so l.live (hears (scene_by rules tree now who) l.path l.query) alive))

heard_again : (old : Tree) (mid : State) (now : ℕ) (who : Option Identity) (l : Listener) → IsHeard mid.rules mid.tree who (judged_again old mid now who l)
heard_again old mid now who l = judged_heard mid.rules mid.tree who now (moves old mid.tree l.path l.query) l

-- a read that is not refused was granted
not_denied : (scene : Scene) (asked : Asked) (path : Path) (v : Verdict) → IsReadVerdict scene asked path v → denial v ≡ None → MayRead scene asked path
not_denied scene asked path verdicts.Granted h none = h
not_denied scene asked path (verdicts.ReadDenied named) h none = cc
not_denied scene asked path (verdicts.WriteDenied at named) h none = absurd h
not_denied scene asked path (verdicts.ValidateDenied at pattern why) h none = absurd h

-- why a read is refused is what its verdict says
denied_by_verdict : (old : State) (now session : ℕ) (path : Path) (query : Option Query) → read_refusal old now session path query ≡ denial (read_verdict (scene_at old now session) (asked_for query) path)
unfolding read_refusal
denied_by_verdict old now session path query = refl

granted_where_not_refused : (old : State) (now session : ℕ) (path : Path) (query : Option Query) → read_refusal old now session path query ≡ None → hears (scene_at old now session) path query ≡ true
unfolding hears
granted_where_not_refused old now session path query none =
    (grants_decided (reading (scene_at old now session) (asked_for query)) Read path).1
    (not_denied (scene_at old now session) (asked_for query) path (read_verdict (scene_at old now session) (asked_for query) path)
    ((reads_decided (scene_at old now session) (asked_for query) path (read_verdict (scene_at old now session) (asked_for query) path)).0 refl)
    (sym (denied_by_verdict old now session path query) ∙ none))

-- ---- a state whose session is put, or gone, or all are judged again

put_heard : (old : State) (n : ℕ) (one : Session) → AllHeard old → AreHeard old.rules old.tree one.identity one.listeners → AllHeard (put_at old n one)
put_heard old n one heard h m =
    subst (λ (o : Option Session). AreHeard old.rules old.tree (who_in o) (listeners_in o)) (sym (get-put_at old n one m)) (there (eqb m n))
  where
    there : (b : Bool) → AreHeard old.rules old.tree (who_in (cond b (Some one) (map_of.get old.sessions m))) (listeners_in (cond b (Some one) (map_of.get old.sessions m)))
    there true = h
    there false = heard m

own_heard : (old : State) (n : ℕ) (who : Option Identity) (mine : List Listener) → AllHeard old → AreHeard old.rules old.tree who mine → AllHeard (with_session old n who mine)
own_heard old n who mine heard h = put_heard old n (record (session_in old n) { identity = who; listeners = mine }) heard h

-- one that is as it was, but for its actions or its leaving
as_heard : (old : State) (n : ℕ) → AllHeard old → AreHeard old.rules old.tree (session_in old n).identity (session_in old n).listeners
as_heard old n heard =
    subst (λ (w : Option Identity). AreHeard old.rules old.tree w (session_in old n).listeners) (sym (identity-in old n))
    (subst (AreHeard old.rules old.tree (identity_of old n)) (sym (listeners-in old n)) (heard n))

actions_heard : (old : State) (n : ℕ) (actions : List Action) → AllHeard old → AllHeard (with_actions old n actions)
actions_heard old n actions heard = put_heard old n (record (session_in old n) { actions = actions }) heard (as_heard old n heard)

departing_heard : (old : State) (n : ℕ) → AllHeard old → AllHeard (departing old n)
departing_heard old n heard = put_heard old n (record (session_in old n) { leaving = true }) heard (as_heard old n heard)

gone_heard : (old : State) (n : ℕ) → AllHeard old → AllHeard (closed old n)
gone_heard old n heard m =
    elim (eqb m n) as (λ b. eqb m n ≡ b → AreHeard old.rules old.tree (identity_of (closed old n) m) (listeners_of (closed old n) m)) [
      | true ↦ λ e. left true e (All-nil (IsHeard old.rules old.tree None))
      | false ↦ λ e. left false e (heard m)
    ] refl
  where
    left : (b : Bool) → eqb m n ≡ b → AreHeard old.rules old.tree (cond b None (identity_of old m)) (cond b [] (listeners_of old m)) → AreHeard old.rules old.tree (identity_of (closed old n) m) (listeners_of (closed old n) m)
    left b e g =
        subst (λ (w : Option Identity). AreHeard old.rules old.tree w (listeners_of (closed old n) m)) (sym (identity-without old n m ∙ ap (λ (c : Bool). cond c None (identity_of old m)) e))
        (subst (AreHeard old.rules old.tree (cond b None (identity_of old m))) (sym (listeners-without old n m ∙ ap (λ (c : Bool). cond c [] (listeners_of old m)) e)) g)

again_heard : (old : Tree) (now : ℕ) (mid : State) → AllHeard (all_rejudged old now mid)
again_heard old now mid n =
    subst (λ (w : Option Identity). AreHeard mid.rules mid.tree w (listeners_of (all_rejudged old now mid) n)) (sym (identity-again old now mid n))
    (subst (AreHeard mid.rules mid.tree (identity_of mid n)) (sym (listeners-again old now mid n))
    (All-map (IsHeard mid.rules mid.tree (identity_of mid n)) (judged_again old mid now (identity_of mid n)) (listeners_of mid n)
    (λ k d lt. heard_again old mid now (identity_of mid n) (get_or (listeners_of mid n) k d))))

own_again_heard : (old : State) (now n : ℕ) (who : Option Identity) → AreHeard old.rules old.tree who (own_again old now n who)
own_again_heard old now n who = All-map (IsHeard old.rules old.tree who) (judged_again old.tree old now who) (listeners_of old n) (λ k d lt. heard_again old.tree old now who (get_or (listeners_of old n) k d))

-- ---- each event

module _ (old : State) (now n : ℕ) (heard : AllHeard old) where
  test_heard : (b : Bool) (refusal : Refusal) (o : Outcome) → AllHeard o.after → AllHeard (cond b (refused old refusal) o).after
  test_heard true refusal o h = heard
  test_heard false refusal o h = h

  unless_heard : (r : Option Refusal) (o : Outcome) → (r ≡ None → AllHeard o.after) → AllHeard (unless_refused old r o).after
  unless_heard None o h = h refl
  unless_heard (Some refusal) o h = heard

  make_heard : (writes : List Write) → AllHeard (makes old now n writes).after
  make_heard writes = unless_heard (write_refusal old now n writes) _ (λ _. again_heard old.tree now (record { tree = tree_with old now writes; rules = old.rules; sessions = old.sessions }))

  set_heard : (write : Write) → AllHeard (sets old now n write).after
  set_heard write = test_heard (not (is_open old n)) NoSession _ (make_heard (write ∷ []))

  sign_heard : (who : Option Identity) → AllHeard (signs old now n who).after
  sign_heard who = test_heard (not (is_open old n)) NoSession _ (own_heard old n who (own_again old now n who) heard (own_again_heard old now n who))

  listen_heard : (id : List ℕ) (path : Path) (query : Option Query) → AllHeard (listens old now n id path query).after
  listen_heard id path query =
      test_heard (not (is_open old n)) NoSession _
      (test_heard (has_id id (listeners_of old n)) DuplicateId _
      (test_heard (leb MAX_LISTENERS (length (listeners_of old n))) TooManyListeners _
      (unless_heard (read_refusal old now n path query) _ (λ none.
      own_heard old n (identity_of old n) (listeners_of old n ++ begun id path query ∷ []) heard
      (All-push (IsHeard old.rules old.tree (identity_of old n)) (listeners_of old n) (begun id path query) (heard n)
      (λ _. (now, granted_where_not_refused old now n path query none)))))))

  keep_heard : (writes : List Write) → AllHeard (keeps old now n writes).after
  keep_heard writes =
      test_heard (leb MAX_ACTIONS (length (actions_of old n))) TooManyActions _
      (unless_heard (denial (verdict_on old now n writes)) _ (λ _. actions_heard old n _ heard))

  keep_one_heard : (write : Write) → AllHeard (keeps_one old now n write).after
  keep_one_heard write = test_heard (not (is_open old n)) NoSession _ (keep_heard (write ∷ []))

  run_heard : (writes : List Write) (others : List Action) (r : Option Refusal) → AllHeard (run_by old now n writes others r).after
  run_heard writes others None = actions_heard (written_to old now writes) n others (again_heard old.tree now (record { tree = tree_with old now writes; rules = old.rules; sessions = old.sessions }))
  run_heard writes others (Some refusal) = actions_heard old n others heard

  first_heard : (actions : List Action) → AllHeard (runs_first old now n actions).after
  first_heard [] = heard
  first_heard (action ∷ others) = run_heard (writes_of action) others (write_refusal old now n (writes_of action))

  unbarred_heard : (event : Event) → AllHeard (unbarred old now n event).after
  unbarred_heard Open =
      test_heard (is_open old n) SessionOpen _
      (test_heard (leb MAX_SESSIONS (map_of.len old.sessions)) TooManySessions _
      (put_heard old n fresh heard (All-nil (IsHeard old.rules old.tree None))))
  unbarred_heard Close = test_heard (not (is_open old n)) NoSession _ (gone_heard old n heard)
  unbarred_heard (SignIn who) = sign_heard (Some who)
  unbarred_heard SignOut = sign_heard None
  unbarred_heard (Get path query) = test_heard (not (is_open old n)) NoSession _ (unless_heard (read_refusal old now n path query) _ (λ _. heard))
  unbarred_heard (Set write) = set_heard write
  unbarred_heard (Remove path) = set_heard (removal path)
  unbarred_heard (Update writes) =
      test_heard (not (is_open old n)) NoSession _
      (test_heard (length writes == 0) EmptyUpdate _
      (test_heard (overlaps writes) Overlap _ (make_heard writes)))
  unbarred_heard (Listen id path query) = listen_heard id path query
  unbarred_heard (Unlisten id) =
      test_heard (not (is_open old n)) NoSession _
      (test_heard (not (has_id id (listeners_of old n))) NoListener _
      (own_heard old n (identity_of old n) (without_id id (listeners_of old n)) heard
      (All-filter (λ l. not (bytes_eq id l.id)) (IsHeard old.rules old.tree (identity_of old n)) (listeners_of old n) (heard n))))
  unbarred_heard Poll =
      test_heard (not (is_open old n)) NoSession _
      (own_heard old n (identity_of old n) (taken (own_again old now n (identity_of old n))) heard
      (All-map (IsHeard old.rules old.tree (identity_of old n)) unmarked (filter (λ l. l.live) (own_again old now n (identity_of old n)))
      (All-filter (λ l. l.live) (λ l. IsHeard old.rules old.tree (identity_of old n) (unmarked l)) (own_again old now n (identity_of old n))
      (own_again_heard old now n (identity_of old n)))))
  unbarred_heard Tick = again_heard old.tree now old
  unbarred_heard (Deploy rules) =
      test_heard (not (is_open old n)) NoSession _
      (test_heard (not (is_admin (identity_of old n))) NotAdmin _ (again_heard old.tree now (record { tree = old.tree; rules = rules; sessions = old.sessions })))
  unbarred_heard (OnSet write) = keep_one_heard write
  unbarred_heard (OnRemove path) = keep_one_heard (removal path)
  unbarred_heard (OnUpdate writes) =
      test_heard (not (is_open old n)) NoSession _
      (test_heard (length writes == 0) EmptyUpdate _
      (test_heard (overlaps writes) Overlap _ (keep_heard writes)))
  unbarred_heard (OnCancel path) = test_heard (not (is_open old n)) NoSession _ (actions_heard old n _ heard)
  unbarred_heard Leave = test_heard (not (is_open old n)) NoSession _ (departing_heard old n heard)
  unbarred_heard RunNext =
      test_heard (not (is_open old n)) NoSession _
      (test_heard (not (is_leaving old n)) NotLeaving _ (first_heard (actions_of old n)))

  pub outcome_heard : (event : Event) → AllHeard (outcome old now n event).after
  outcome_heard event = test_heard (wants_presence event && is_leaving old n) Leaving _ (unbarred_heard event)

-- ---- steps

pub step_heard : (old : State) (now session : ℕ) (event : Event) (reply : Reply) (new : State) → AllHeard old → Step old now session event reply new → AllHeard new
unfolding Step
step_heard old now session event reply new heard (inl h) = subst (λ (o : Outcome). AllHeard o.after) h (outcome_heard old now session heard event)
step_heard old now session event reply new heard (inr h) = subst AllHeard (sym h.1) heard

pub opening_heard : (rules : Book) (tree : Tree) → AllHeard (opening rules tree)
opening_heard rules tree n = subst (AreHeard rules tree (identity_of (opening rules tree) n)) (sym (ap listeners_in (map_of.get-empty nat_cmp n))) (All-nil (IsHeard rules tree (identity_of (opening rules tree) n)))

-- ---- a database that begins again

-- a session that goes on listens to nothing
pub resumed_heard : (old : State) (n : ℕ) (who : Option Identity) (leaving : Bool) → AllHeard old → AllHeard (resumed old n who leaving)
resumed_heard old n who leaving heard = put_heard old n (going_on who leaving) heard (All-nil (IsHeard old.rules old.tree who))

-- one that has an action more listens to the same
pub established_heard : (old : State) (n : ℕ) (writes : List Write) → AllHeard old → AllHeard (with_action old n writes)
established_heard old n writes heard = actions_heard old n _ heard
