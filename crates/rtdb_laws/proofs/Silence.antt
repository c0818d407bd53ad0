-- The calls that change more than listeners are a run without listeners.
use Rattle.std.proofs.Common.{◌≡◌, ◌&&◌, ℕ, Bool, true, false, not, cond, eqb, leb, T, List, [], ◌∷◌, ◌++◌, map, length, Option, Some, None, is_some, option_map, inl, inr, refl, sym, ap, subst, ◌∙◌}
use Rattle.std.proofs.lemmas.Bool.{false≢true, eqb-true}
use Rattle.std.proofs.lemmas.List.{length-map}
use Rattle.std.specs.Prelude.{◌==◌, filter}
use Rattle.std.specs.FinMap as map_of
use Rattle.std.specs.FinMap.{is_sorted}
use Rattle.std.specs.FinMap.Entries.{below_all}
use Rattle.std.specs.Ordering.{nat_cmp, is_lt}
use Rattle.std.specs.Cmp.{nat_cmp_total}
use Rattle.tree_model.specs.Tree.{Tree}
use Rattle.tree_model.specs.Put.{location, overlaps}
use Rattle.tree_model.specs.Write.{Write}
use Rattle.tree_model.proofs.Grafts.{entries-sorted}
use Rattle.evaluator.specs.Identity.{Identity}
use Rattle.judge.specs.declared.verdict.Verdict.{Verdict}
use Rattle.judge.specs.Tests.{write_verdict}
use Rattle.rules_reader.specs.Book.{Book}
use Rattle.listeners.specs.declared.limits.TheConstants.{MAX_LISTENERS}
use Rattle.listeners.specs.Table.{Listener, has_id}
use Rattle.rtdb_model.specs.declared.limits.TheConstants.{MAX_SESSIONS, MAX_ACTIONS}
use Rattle.rtdb_model.specs.declared.event.Event.{Event}
use Rattle.rtdb_model.specs.declared.event.Event.TheVariants.{Open, Close, SignIn, SignOut, Get, Set, Remove, Update, Listen, Unlisten, Poll, Tick, Deploy, OnSet, OnRemove, OnUpdate, OnCancel, Leave, RunNext}
use Rattle.rtdb_model.specs.declared.reply.Refusal.{Refusal}
use Rattle.rtdb_model.specs.declared.reply.Refusal.TheVariants.{SessionOpen, TooManySessions, NoSession, NotAdmin, EmptyUpdate, Overlap, DuplicateId, TooManyListeners, NoListener, Leaving, TooManyActions, NotLeaving, NoMemory}
use Rattle.rtdb_model.specs.declared.reply.Reply.{Reply}
use Rattle.rtdb_model.specs.declared.reply.Reply.TheVariants.{Done, Refused, Ran, Closed}
use Rattle.rtdb_model.specs.declared.reply.Ran.TheVariants.{Applied, Skipped}
use Rattle.rtdb_model.specs.State.{Action, State, Session, Sessions, opening, fresh, session_or_fresh, session_in, is_open, is_leaving, identity_of, listeners_in, listeners_of, actions_of, is_admin, scene_for, each_session}
use Rattle.rtdb_model.specs.Rejudged.{judged_again, rejudged, all_rejudged}
use Rattle.rtdb_model.specs.Step.{Outcome, refused, unless_refused, denial, or_full, verdict_on, read_refusal, write_refusal, opened, closed, with_session, own_again, signs, tree_with, written_to, removal, action_of, writes_of, with_actions, with_action, keeps, is_below, departing, run_by, runs_first, wants_presence, unbarred, outcome, Step, Call, Run}
use Rattle.rtdb_model.proofs.Slots.{put_at, who_in, is_same, get-put_at, get-each, changed}
use Rattle.rtdb_laws.specs.Effects.{changes, changing, effective, unlistening, without_listeners, IsSilent}

-- ---- a map whose sessions listen to nothing

from_T : (b : Bool) → T b → b ≡ true
from_T true h = refl
from_T false h = absurd h

below-changed : (f : Session → Session) (n : ℕ) (es : List (ℕ × Session)) → below_all nat_cmp n (changed f es) ≡ below_all nat_cmp n es
below-changed f n [] = refl
below-changed f n (e ∷ es) = ap (λ (b : Bool). is_lt (nat_cmp n e.0) && b) (below-changed f n es)

sorted-changed : (f : Session → Session) (es : List (ℕ × Session)) → is_sorted nat_cmp (changed f es) ≡ is_sorted nat_cmp es
sorted-changed f [] = refl
sorted-changed f (e ∷ es) = λ i. below-changed f e.0 es i && sorted-changed f es i

len-each : (f : Session → Session) (m : Sessions) → map_of.len (each_session f m) ≡ map_of.len m
len-each f m =
    map_of.len-entries (each_session f m)
    ∙ ap length (entries-sorted nat_cmp_total map_of.nat_cmp-IsAntisymmetric (changed f (map_of.entries m)) (sorted-changed f (map_of.entries m) ∙ from_T _ (map_of.entries_sorted m)))
    ∙ length-map (map_of.entries m) (λ e. (e.0, f e.1))
    ∙ sym (map_of.len-entries m)

-- ---- what the silent state has

module _ (s : State) (q : ℕ) where
  get-silent : map_of.get (without_listeners s).sessions q ≡ option_map unlistening (map_of.get s.sessions q)
  get-silent = get-each unlistening s.sessions q

  open-silent : is_open (without_listeners s) q ≡ is_open s q
  open-silent = ap is_some get-silent ∙ inside (map_of.get s.sessions q)
    where
      inside : (o : Option Session) → is_some (option_map unlistening o) ≡ is_some o
      inside None = refl
      inside (Some one) = refl

  identity-silent : identity_of (without_listeners s) q ≡ identity_of s q
  identity-silent = ap who_in get-silent ∙ inside (map_of.get s.sessions q)
    where
      inside : (o : Option Session) → who_in (option_map unlistening o) ≡ who_in o
      inside None = refl
      inside (Some one) = refl

  listeners-silent : listeners_of (without_listeners s) q ≡ []
  listeners-silent = ap listeners_in get-silent ∙ inside (map_of.get s.sessions q)
    where
      inside : (o : Option Session) → listeners_in (option_map unlistening o) ≡ []
      inside None = refl
      inside (Some one) = refl

  session-silent : session_in (without_listeners s) q ≡ unlistening (session_in s q)
  session-silent = ap session_or_fresh get-silent ∙ inside (map_of.get s.sessions q)
    where
      inside : (o : Option Session) → session_or_fresh (option_map unlistening o) ≡ unlistening (session_or_fresh o)
      inside None = refl
      inside (Some one) = refl

  actions-silent : actions_of (without_listeners s) q ≡ actions_of s q
  actions-silent = ap (λ (one : Session). one.actions) session-silent

  leaving-silent : is_leaving (without_listeners s) q ≡ is_leaving s q
  leaving-silent = ap (λ (one : Session). one.leaving) session-silent

pub is_silent : (s : State) → IsSilent (without_listeners s) s
is_silent s = record {
  listeners = listeners-silent s;
  tree = refl;
  rules = refl;
  opened = open-silent s;
  identities = identity-silent s;
  actions = actions-silent s;
  leaving = leaving-silent s;
}

-- ---- silent states that are the same

-- where the sessions are found the same, so are the states of this tree and these rules
same_state : (tree : Tree) (rules : Book) (m n : Sessions) → ((q : ℕ) → map_of.get m q ≡ map_of.get n q) → ◌≡◌ {A = State} (record { tree = tree; rules = rules; sessions = m }) (record { tree = tree; rules = rules; sessions = n })
same_state tree rules m n same = ap (λ (ms : Sessions). record { tree = tree; rules = rules; sessions = ms }) (map_of.same_map nat_cmp_total map_of.nat_cmp-IsAntisymmetric m n same)

silent-put : (s : State) (n : ℕ) (one : Session) → without_listeners (put_at s n one) ≡ put_at (without_listeners s) n (unlistening one)
silent-put s n one = same_state s.tree s.rules _ _ (λ q.
    get-silent (put_at s n one) q
    ∙ ap (option_map unlistening) (get-put_at s n one q)
    ∙ inside q (eqb q n)
    ∙ sym (get-put_at (without_listeners s) n (unlistening one) q))
  where
    inside : (q : ℕ) (b : Bool) → option_map unlistening (cond b (Some one) (map_of.get s.sessions q)) ≡ cond b (Some (unlistening one)) (map_of.get (without_listeners s).sessions q)
    inside q true = refl
    inside q false = sym (get-silent s q)

silent-closed : (s : State) (n : ℕ) → without_listeners (closed s n) ≡ closed (without_listeners s) n
silent-closed s n = same_state s.tree s.rules _ _ (λ q.
    get-silent (closed s n) q
    ∙ ap (option_map unlistening) (without s q)
    ∙ inside q (eqb q n)
    ∙ sym (without (without_listeners s) q))
  where
    without : (t : State) (q : ℕ) → map_of.get (closed t n).sessions q ≡ cond (eqb q n) None (map_of.get t.sessions q)
    without t q = map_of.get-remove nat_cmp_total t.sessions n q ∙ ap (λ (b : Bool). cond b None (map_of.get t.sessions q)) (is_same q n)

    inside : (q : ℕ) (b : Bool) → option_map unlistening (cond b None (map_of.get s.sessions q)) ≡ cond b None (map_of.get (without_listeners s).sessions q)
    inside q true = refl
    inside q false = sym (get-silent s q)

-- to judge listeners again changes nothing else
silent-again : (tree : Tree) (now : ℕ) (s : State) → without_listeners (all_rejudged tree now s) ≡ without_listeners s
silent-again tree now s = same_state s.tree s.rules _ _ (λ q.
    get-silent (all_rejudged tree now s) q
    ∙ ap (option_map unlistening) (get-each (rejudged tree s now) s.sessions q)
    ∙ inside (map_of.get s.sessions q)
    ∙ sym (get-silent s q))
  where
    inside : (o : Option Session) → option_map unlistening (option_map (rejudged tree s now) o) ≡ option_map unlistening o
    inside None = refl
    inside (Some one) = refl

-- and nothing at all where there are none
again-silent : (tree : Tree) (now : ℕ) (s : State) → all_rejudged tree now (without_listeners s) ≡ without_listeners s
again-silent tree now s = same_state s.tree s.rules _ _ (λ q.
    get-each (rejudged tree (without_listeners s) now) (without_listeners s).sessions q
    ∙ ap (option_map (rejudged tree (without_listeners s) now)) (get-silent s q)
    ∙ inside (map_of.get s.sessions q)
    ∙ sym (get-silent s q))
  where
    inside : (o : Option Session) → option_map (rejudged tree (without_listeners s) now) (option_map unlistening o) ≡ option_map unlistening o
    inside None = refl
    inside (Some one) = refl

silent-judged : (tree : Tree) (now : ℕ) (s : State) → without_listeners (all_rejudged tree now s) ≡ all_rejudged tree now (without_listeners s)
silent-judged tree now s = silent-again tree now s ∙ sym (again-silent tree now s)

silent-with : (s : State) (n : ℕ) (who : Option Identity) (mine : List Listener) → without_listeners (with_session s n who mine) ≡ with_session (without_listeners s) n who []
silent-with s n who mine =
    silent-put s n (record (session_in s n) { identity = who; listeners = mine })
    ∙ ap (λ (one : Session). put_at (without_listeners s) n (record one { identity = who; listeners = [] })) (sym (session-silent s n))

silent-actions : (s : State) (n : ℕ) (actions : List Action) → without_listeners (with_actions s n actions) ≡ with_actions (without_listeners s) n actions
silent-actions s n actions =
    silent-put s n (record (session_in s n) { actions = actions })
    ∙ ap (λ (one : Session). put_at (without_listeners s) n (record one { actions = actions })) (sym (session-silent s n))

silent-departing : (s : State) (n : ℕ) → without_listeners (departing s n) ≡ departing (without_listeners s) n
silent-departing s n =
    silent-put s n (record (session_in s n) { leaving = true })
    ∙ ap (λ (one : Session). put_at (without_listeners s) n (record one { leaving = true })) (sym (session-silent s n))

-- an open session that listens to something else is the same in all else
silent-same : (s : State) (n : ℕ) (mine : List Listener) → is_open s n ≡ true → without_listeners (with_session s n (identity_of s n) mine) ≡ without_listeners s
silent-same s n mine opened_ = same_state s.tree s.rules _ _ (λ q.
    get-silent (with_session s n (identity_of s n) mine) q
    ∙ ap (option_map unlistening) (get-put_at s n one q)
    ∙ by_number q (eqb q n) refl
    ∙ sym (get-silent s q))
  where
    one : Session
    one = record (session_in s n) { identity = identity_of s n; listeners = mine }

    inside : (o : Option Session) → is_some o ≡ true → Some (unlistening (record (session_or_fresh o) { identity = who_in o; listeners = mine })) ≡ option_map unlistening o
    inside None h = absurd (false≢true h)
    inside (Some it) h = refl

    by_number : (q : ℕ) (b : Bool) → eqb q n ≡ b → option_map unlistening (cond b (Some one) (map_of.get s.sessions q)) ≡ option_map unlistening (map_of.get s.sessions q)
    by_number q true e = inside (map_of.get s.sessions n) opened_ ∙ ap (λ (m : ℕ). option_map unlistening (map_of.get s.sessions m)) (sym (eqb-true q n e))
    by_number q false e = refl

silent-opening : (rules : Book) (tree : Tree) → without_listeners (opening rules tree) ≡ opening rules tree
silent-opening rules tree = same_state tree rules _ _ (λ q.
    get-each unlistening map_of.empty q
    ∙ ap (option_map unlistening) (map_of.get-empty nat_cmp q)
    ∙ sym (map_of.get-empty nat_cmp q))

-- ---- what is judged

module _ (old : State) (now n : ℕ) where
  verdict-silent : (writes : List Write) → verdict_on (without_listeners old) now n writes ≡ verdict_on old now n writes
  verdict-silent writes = ap (λ (who : Option Identity). write_verdict (scene_for old now who) (tree_with old now writes) (map location writes)) (identity-silent old n)

  refusal-silent : (writes : List Write) → write_refusal (without_listeners old) now n writes ≡ write_refusal old now n writes
  unfolding write_refusal
  refusal-silent writes = ap (λ (v : Verdict). or_full (denial v) (tree_with old now writes)) (verdict-silent writes)

-- ---- each event

changes_refused : (event : Event) (refusal : Refusal) → changes event (Refused refusal) ≡ false
changes_refused Open refusal = refl
changes_refused event refusal = refl

module _ (old : State) (now n : ℕ) where
  abbrev silent : State
  silent = without_listeners old

  -- where the first outcome, of the state, changes more than listeners, the second, of the silent state, has its reply and leaves its silent state; else the first leaves the silent state that there was
  record Mirrors (event : Event) (o p : Outcome) : Type 0 where
    kept : changes event o.reply ≡ true → p ≡ record { reply = o.reply; after = without_listeners o.after }
    stays : changes event o.reply ≡ false → without_listeners o.after ≡ silent

  refused_mirrors : (event : Event) (refusal : Refusal) (p : Outcome) → Mirrors event (refused old refusal) p
  refused_mirrors event refusal p = record {
    kept = λ c. absurd (false≢true (sym (changes_refused event refusal) ∙ c));
    stays = λ _. refl;
  }

  test_mirrors : (event : Event) (b c : Bool) → c ≡ b → (refusal : Refusal) (o p : Outcome) → (b ≡ false → Mirrors event o p) → Mirrors event (cond b (refused old refusal) o) (cond c (refused silent refusal) p)
  test_mirrors event true c e refusal o p h = refused_mirrors event refusal (cond c (refused silent refusal) p)
  test_mirrors event false c e refusal o p h = subst (λ (x : Bool). Mirrors event o (cond x (refused silent refusal) p)) (sym e) (h refl)

  unless_mirrors : (event : Event) (r t : Option Refusal) → t ≡ r → (o p : Outcome) → Mirrors event o p → Mirrors event (unless_refused old r o) (unless_refused silent t p)
  unless_mirrors event None t e o p h = subst (λ (x : Option Refusal). Mirrors event o (unless_refused silent x p)) (sym e) h
  unless_mirrors event (Some refusal) t e o p h = refused_mirrors event refusal (unless_refused silent t p)

  -- what the silent state makes of an event that changes listeners alone does not count
  skip_test : (event : Event) (b : Bool) (refusal : Refusal) (o p : Outcome) → (b ≡ false → Mirrors event o p) → Mirrors event (cond b (refused old refusal) o) p
  skip_test event true refusal o p h = refused_mirrors event refusal p
  skip_test event false refusal o p h = h refl

  skip_unless : (event : Event) (r : Option Refusal) (o p : Outcome) → Mirrors event o p → Mirrors event (unless_refused old r o) p
  skip_unless event None o p h = h
  skip_unless event (Some refusal) o p h = refused_mirrors event refusal p

  done_mirrors : (event : Event) (o p : Outcome) → changes event o.reply ≡ true → p ≡ record { reply = o.reply; after = without_listeners o.after } → Mirrors event o p
  done_mirrors event o p c is = record { kept = λ _. is; stays = λ none. absurd (false≢true (sym none ∙ c)) }

  left_mirrors : (event : Event) (o p : Outcome) → changes event o.reply ≡ false → without_listeners o.after ≡ silent → Mirrors event o p
  left_mirrors event o p none same = record { kept = λ c. absurd (false≢true (sym none ∙ c)); stays = λ _. same }

  -- ---- tests

  shut-silent : not (is_open silent n) ≡ not (is_open old n)
  shut-silent = ap not (open-silent old n)

  open_mirrors : (event : Event) (o p : Outcome) → Mirrors event o p → Mirrors event (cond (not (is_open old n)) (refused old NoSession) o) (cond (not (is_open silent n)) (refused silent NoSession) p)
  open_mirrors event o p h = test_mirrors event (not (is_open old n)) (not (is_open silent n)) shut-silent NoSession o p (λ _. h)

  -- ---- outcomes

  same_done : (event : Event) (after other : State) → changes event Done ≡ true → other ≡ without_listeners after → Mirrors event (record { reply = Done; after = after }) (record { reply = Done; after = other })
  same_done event after other c is = done_mirrors event _ _ c (ap (λ (s : State). record { reply = Done; after = s }) is)

  sign_mirrors : (event : Event) (who : Option Identity) → changes event Done ≡ true → Mirrors event (signs old now n who) (signs silent now n who)
  sign_mirrors event who c =
      open_mirrors event _ _
      (same_done event (with_session old n who (own_again old now n who)) (with_session silent n who (own_again silent now n who)) c
      (ap (λ (ls : List Listener). with_session silent n who (map (judged_again silent.tree silent now who) ls)) (listeners-silent old n)
      ∙ sym (silent-with old n who (own_again old now n who))))

  written : (writes : List Write) → without_listeners (written_to old now writes) ≡ written_to silent now writes
  written writes = silent-judged old.tree now (record { tree = tree_with old now writes; rules = old.rules; sessions = old.sessions })

  make_mirrors : (event : Event) (writes : List Write) → changes event Done ≡ true → Mirrors event (unless_refused old (write_refusal old now n writes) (record { reply = Done; after = written_to old now writes })) (unless_refused silent (write_refusal silent now n writes) (record { reply = Done; after = written_to silent now writes }))
  make_mirrors event writes c =
      unless_mirrors event (write_refusal old now n writes) (write_refusal silent now n writes) (refusal-silent old now n writes) _ _
      (same_done event (written_to old now writes) (written_to silent now writes) c (sym (written writes)))

  keep_mirrors : (event : Event) (writes : List Write) → changes event Done ≡ true → Mirrors event (keeps old now n writes) (keeps silent now n writes)
  keep_mirrors event writes c =
      test_mirrors event (leb MAX_ACTIONS (length (actions_of old n))) (leb MAX_ACTIONS (length (actions_of silent n))) (ap (λ (actions : List Action). leb MAX_ACTIONS (length actions)) (actions-silent old n)) TooManyActions _ _ (λ _.
      unless_mirrors event (denial (verdict_on old now n writes)) (denial (verdict_on silent now n writes)) (ap denial (verdict-silent old now n writes)) _ _
      (same_done event _ _ c (acted writes)))
    where
      acted : (writes : List Write) → with_action silent n writes ≡ without_listeners (with_action old n writes)
      acted writes =
          ap (λ (actions : List Action). with_actions silent n (actions ++ action_of writes ∷ [])) (actions-silent old n)
          ∙ sym (silent-actions old n (actions_of old n ++ action_of writes ∷ []))

  run_mirrors : (writes : List Write) (others : List Action) (r : Option Refusal) → Mirrors RunNext (run_by old now n writes others r) (run_by silent now n writes others r)
  run_mirrors writes others None =
      done_mirrors RunNext _ _ refl
      (ap (λ (s : State). record { reply = Ran Applied; after = s })
      (ap (λ (s : State). with_actions s n others) (sym (written writes)) ∙ sym (silent-actions (written_to old now writes) n others)))
  run_mirrors writes others (Some refusal) =
      done_mirrors RunNext _ _ refl (ap (λ (s : State). record { reply = Ran (Skipped refusal); after = s }) (sym (silent-actions old n others)))

  first_mirrors : (actions : List Action) → Mirrors RunNext (runs_first old now n actions) (runs_first silent now n actions)
  first_mirrors [] = left_mirrors RunNext _ _ refl refl
  first_mirrors (action ∷ others) =
      subst (λ (r : Option Refusal). Mirrors RunNext (run_by old now n (writes_of action) others (write_refusal old now n (writes_of action))) (run_by silent now n (writes_of action) others r)) (sym (refusal-silent old now n (writes_of action)))
      (run_mirrors (writes_of action) others (write_refusal old now n (writes_of action)))

  close_mirrors : Mirrors Close (record { reply = Closed (length (actions_of old n)); after = closed old n }) (record { reply = Closed (length (actions_of silent n)); after = closed silent n })
  close_mirrors = done_mirrors Close _ _ refl (λ i. record { reply = Closed (length (actions-silent old n i)); after = sym (silent-closed old n) i })

  -- the session listens to something else
  listening_mirrors : (event : Event) (reply : Reply) (mine : List Listener) (p : Outcome) → changes event reply ≡ false → is_open old n ≡ true → Mirrors event (record { reply = reply; after = with_session old n (identity_of old n) mine }) p
  listening_mirrors event reply mine p none here = left_mirrors event _ p none (silent-same old n mine here)

  here_is : (b : Bool) → not b ≡ false → b ≡ true
  here_is true e = refl
  here_is false e = sym e

  unbarred_mirrors : (event : Event) → Mirrors event (unbarred old now n event) (unbarred silent now n event)
  unbarred_mirrors Open =
      test_mirrors Open (is_open old n) (is_open silent n) (open-silent old n) SessionOpen _ _ (λ _.
      test_mirrors Open (leb MAX_SESSIONS (map_of.len old.sessions)) (leb MAX_SESSIONS (map_of.len silent.sessions)) (ap (leb MAX_SESSIONS) (len-each unlistening old.sessions)) TooManySessions _ _ (λ _.
      same_done Open (opened old n) (opened silent n) refl (sym (silent-put old n fresh))))
  unbarred_mirrors Close = open_mirrors Close _ _ close_mirrors
  unbarred_mirrors (SignIn who) = sign_mirrors (SignIn who) (Some who) refl
  unbarred_mirrors SignOut = sign_mirrors SignOut None refl
  unbarred_mirrors (Get path query) =
      skip_test (Get path query) (not (is_open old n)) NoSession _ _ (λ _.
      skip_unless (Get path query) (read_refusal old now n path query) _ _ (left_mirrors (Get path query) _ _ refl refl))
  unbarred_mirrors (Set write) = open_mirrors (Set write) _ _ (make_mirrors (Set write) (write ∷ []) refl)
  unbarred_mirrors (Remove path) = open_mirrors (Remove path) _ _ (make_mirrors (Remove path) (removal path ∷ []) refl)
  unbarred_mirrors (Update writes) =
      let event = Update writes in
      open_mirrors event _ _
      (test_mirrors event (length writes == 0) (length writes == 0) refl EmptyUpdate _ _ (λ _.
      test_mirrors event (overlaps writes) (overlaps writes) refl Overlap _ _ (λ _. make_mirrors event writes refl)))
  unbarred_mirrors (Listen id path query) =
      let event = Listen id path query in
      skip_test event (not (is_open old n)) NoSession _ _ (λ shut.
      skip_test event (has_id id (listeners_of old n)) DuplicateId _ _ (λ _.
      skip_test event (leb MAX_LISTENERS (length (listeners_of old n))) TooManyListeners _ _ (λ _.
      skip_unless event (read_refusal old now n path query) _ _ (listening_mirrors event _ _ _ refl (here_is (is_open old n) shut)))))
  unbarred_mirrors (Unlisten id) =
      let event = Unlisten id in
      skip_test event (not (is_open old n)) NoSession _ _ (λ shut.
      skip_test event (not (has_id id (listeners_of old n))) NoListener _ _ (λ _. listening_mirrors event _ _ _ refl (here_is (is_open old n) shut)))
  unbarred_mirrors Poll =
      skip_test Poll (not (is_open old n)) NoSession _ _ (λ shut. listening_mirrors Poll _ _ _ refl (here_is (is_open old n) shut))
  unbarred_mirrors Tick = left_mirrors Tick _ _ refl (silent-again old.tree now old)
  unbarred_mirrors (Deploy rules) =
      let event = Deploy rules in
      open_mirrors event _ _
      (test_mirrors event (not (is_admin (identity_of old n))) (not (is_admin (identity_of silent n))) (ap (λ (who : Option Identity). not (is_admin who)) (identity-silent old n)) NotAdmin _ _ (λ _.
      same_done event _ _ refl (sym (silent-judged old.tree now (record { tree = old.tree; rules = rules; sessions = old.sessions })))))
  unbarred_mirrors (OnSet write) = open_mirrors (OnSet write) _ _ (keep_mirrors (OnSet write) (write ∷ []) refl)
  unbarred_mirrors (OnRemove path) = open_mirrors (OnRemove path) _ _ (keep_mirrors (OnRemove path) (removal path ∷ []) refl)
  unbarred_mirrors (OnUpdate writes) =
      let event = OnUpdate writes in
      open_mirrors event _ _
      (test_mirrors event (length writes == 0) (length writes == 0) refl EmptyUpdate _ _ (λ _.
      test_mirrors event (overlaps writes) (overlaps writes) refl Overlap _ _ (λ _. keep_mirrors event writes refl)))
  unbarred_mirrors (OnCancel path) =
      let event = OnCancel path in
      open_mirrors event _ _
      (same_done event _ _ refl
      (ap (λ (actions : List Action). with_actions silent n (filter (λ action. not (is_below path action)) actions)) (actions-silent old n)
      ∙ sym (silent-actions old n (filter (λ action. not (is_below path action)) (actions_of old n)))))
  unbarred_mirrors Leave = open_mirrors Leave _ _ (same_done Leave _ _ refl (sym (silent-departing old n)))
  unbarred_mirrors RunNext =
      open_mirrors RunNext _ _
      (test_mirrors RunNext (not (is_leaving old n)) (not (is_leaving silent n)) (ap not (leaving-silent old n)) NotLeaving _ _ (λ _.
      subst (λ (actions : List Action). Mirrors RunNext (runs_first old now n (actions_of old n)) (runs_first silent now n actions)) (sym (actions-silent old n))
      (first_mirrors (actions_of old n))))

  outcome_mirrors : (event : Event) → Mirrors event (outcome old now n event) (outcome silent now n event)
  outcome_mirrors event =
      test_mirrors event (wants_presence event && is_leaving old n) (wants_presence event && is_leaving silent n) (ap (λ (b : Bool). wants_presence event && b) (leaving-silent old n)) Leaving _ _ (λ _. unbarred_mirrors event)

-- ---- steps and runs

-- what a step is without listeners: a step with its reply where it changes more than these, else none
record IsKept (old : State) (call : Call) (reply : Reply) (new : State) : Type 0 where
  steps : changes call.event reply ≡ true → Step (without_listeners old) call.now call.session call.event reply (without_listeners new)
  stays : changes call.event reply ≡ false → without_listeners new ≡ without_listeners old

step_kept : (old : State) (call : Call) (reply : Reply) (new : State) → Step old call.now call.session call.event reply new → IsKept old call reply new
unfolding Step
step_kept old call reply new (inl h) = subst (λ (o : Outcome). IsKept old call o.reply o.after) h record { steps = λ c. inl (mirrors.kept c); stays = mirrors.stays }
  where
    mirrors : Mirrors old call.now call.session call.event (outcome old call.now call.session call.event) (outcome (without_listeners old) call.now call.session call.event)
    mirrors = outcome_mirrors old call.now call.session call.event
step_kept old call reply new (inr h) = record {
  steps = λ c. absurd (false≢true (sym (ap (changes call.event) h.0 ∙ changes_refused call.event NoMemory) ∙ c));
  stays = λ _. ap without_listeners h.1;
}

pub run_kept : (old new : State) (calls : List Call) (replies : List Reply) → Run old calls replies new → Run (without_listeners old) (changing calls replies) (effective calls replies) (without_listeners new)
run_kept old new [] [] run = ap without_listeners run
run_kept old new [] (reply ∷ replies) run = absurd run
run_kept old new (call ∷ calls) [] run = absurd run
run_kept old new (call ∷ calls) (reply ∷ replies) run = by_change (changes call.event reply) refl (run_kept run.0 new calls replies run.2)
  where
    kept : IsKept old call reply run.0
    kept = step_kept old call reply run.0 run.1

    by_change : (b : Bool) → changes call.event reply ≡ b → Run (without_listeners run.0) (changing calls replies) (effective calls replies) (without_listeners new) → Run (without_listeners old) (cond b (call ∷ changing calls replies) (changing calls replies)) (cond b (reply ∷ effective calls replies) (effective calls replies)) (without_listeners new)
    by_change true e rest = (without_listeners run.0, kept.steps e, rest)
    by_change false e rest = subst (λ (s : State). Run s (changing calls replies) (effective calls replies) (without_listeners new)) (kept.stays e) rest

pub opening_kept : (rules : Book) (tree : Tree) (calls : List Call) (replies : List Reply) (new : State) → Run (opening rules tree) calls replies new → Run (opening rules tree) (changing calls replies) (effective calls replies) (without_listeners new)
opening_kept rules tree calls replies new run =
    subst (λ (s : State). Run s (changing calls replies) (effective calls replies) (without_listeners new)) (silent-opening rules tree)
    (run_kept (opening rules tree) new calls replies run)
