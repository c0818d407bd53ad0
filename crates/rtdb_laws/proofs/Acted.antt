-- What becomes of actions, step by step.
use Rattle.std.proofs.Common.{◌≡◌, ◌<◌, ◌≤◌, ◌&&◌, ℕ, zero, suc, Bool, true, false, not, cond, eqb, leb, List, [], ◌∷◌, ◌++◌, map, drop, length, get_or, Option, Some, None, is_some, inl, inr, refl, sym, ap, subst, ◌∙◌, arith}
use Rattle.std.proofs.lemmas.Bool.{false≢true, eq-eqb, eqb-true}
use Rattle.std.proofs.lemmas.List.{map-append, length-append, length-map}
use Rattle.std.proofs.lemmas.List.Elements.{filter-append}
use Rattle.std.specs.Prelude.{◌==◌, filter}
use Rattle.std.specs.FinMap as map_of
use Rattle.std.specs.Ordering.{nat_cmp}
use Rattle.tree_model.specs.Path.{Path}
use Rattle.tree_model.specs.Tree.{Tree}
use Rattle.tree_model.specs.Put.{overlaps}
use Rattle.tree_model.specs.Write.{Write}
use Rattle.evaluator.specs.Identity.{Identity}
use Rattle.rules_reader.specs.Book.{Book}
use Rattle.listeners.specs.declared.limits.TheConstants.{MAX_LISTENERS}
use Rattle.listeners.specs.Table.{Listener, has_id}
use Rattle.rtdb_model.specs.declared.limits.TheConstants.{MAX_SESSIONS, MAX_ACTIONS}
use Rattle.rtdb_model.specs.declared.event.Event.{Event}
use Rattle.rtdb_model.specs.declared.event.Event.TheVariants.{Open, Close, SignIn, SignOut, Get, Set, Remove, Update, Listen, Unlisten, Poll, Tick, Deploy, OnSet, OnRemove, OnUpdate, OnCancel, Leave, RunNext}
use Rattle.rtdb_model.specs.declared.reply.Refusal.{Refusal}
use Rattle.rtdb_model.specs.declared.reply.Refusal.TheVariants.{SessionOpen, TooManySessions, NoSession, NotAdmin, EmptyUpdate, Overlap, DuplicateId, TooManyListeners, NoListener, Leaving, TooManyActions, NotLeaving, NoMemory}
use Rattle.rtdb_model.specs.declared.reply.Reply.{Reply}
use Rattle.rtdb_model.specs.declared.reply.Reply.TheVariants.{Done, Value, News, Refused, Ran, Closed}
use Rattle.rtdb_model.specs.declared.reply.Ran.TheVariants.{Empty, Applied, Skipped}
use Rattle.rtdb_model.specs.State.{Action, State, Session, opening, fresh, session_or_fresh, session_in, is_open, is_leaving, identity_of, listeners_of, actions_of, is_admin}
use Rattle.rtdb_model.specs.Step.{Outcome, refused, unless_refused, denial, verdict_on, read_refusal, write_refusal, opened, closed, with_session, tree_with, written_to, removal, action_of, writes_of, with_actions, is_below, keeps, run_by, runs_first, wants_presence, unbarred, outcome, Step, Call, Run}
use Rattle.rtdb_model.specs.Headline.{is_done}
use Rattle.rtdb_model.specs.Marks.{Taken, steps_after}
use Rattle.rtdb_model.specs.Actions.{Fate, waits, taken_back, made, skipped, dropped, is_waiting, Established, ended_by, cancelled_at, first_ended_by, run_in, one_more, established_by, established, waiting}
use Rattle.rtdb_laws.proofs.Kept.{turned}
use Rattle.rtdb_model.proofs.Slots.{put_at, actions-put_at, actions-without, actions-again}

-- ---- lists of what was established

-- the first of those that wait, if any, is the first of all or one behind it
waiting_first : (e : Established) (es : List Established) → waiting (e ∷ es) ≡ cond (is_waiting e.fate) (e.action ∷ waiting es) (waiting es)
waiting_first e es = by_fate (is_waiting e.fate)
  where
    by_fate : (b : Bool) → map (λ (x : Established). x.action) (cond b (e ∷ filter (λ x. is_waiting x.fate) es) (filter (λ x. is_waiting x.fate) es)) ≡ cond b (e.action ∷ waiting es) (waiting es)
    by_fate true = refl
    by_fate false = refl

waiting_more : (ws : List Write) (es : List Established) → waiting (one_more ws es) ≡ waiting es ++ action_of ws ∷ []
waiting_more ws es =
    let one : Established = record { action = action_of ws; fate = waits } in
    ap (map (λ (e : Established). e.action)) (filter-append (λ (e : Established). is_waiting e.fate) es (one ∷ []))
    ∙ map-append (λ (e : Established). e.action) (filter (λ e. is_waiting e.fate) es) (one ∷ [])

-- where all that wait come to an end, none waits
none_waits : (fate : Fate) → is_waiting fate ≡ false → (es : List Established) → waiting (map (ended_by fate) es) ≡ []
none_waits fate ends [] = refl
none_waits fate ends (e ∷ es) =
    waiting_first (ended_by fate e) (map (ended_by fate) es)
    ∙ ap (λ (b : Bool). cond b ((ended_by fate e).action ∷ waiting (map (ended_by fate) es)) (waiting (map (ended_by fate) es))) (over (is_waiting e.fate) refl)
    ∙ none_waits fate ends es
  where
    over : (b : Bool) → is_waiting e.fate ≡ b → is_waiting (ended_by fate e).fate ≡ false
    over true h = ap (λ (c : Bool). is_waiting (cond c (record { action = e.action; fate = fate }) e).fate) h ∙ ends
    over false h = ap (λ (c : Bool). is_waiting (cond c (record { action = e.action; fate = fate }) e).fate) h ∙ h

-- where those at a path are taken back, the others wait
others_wait : (path : Path) (es : List Established) → waiting (map (cancelled_at path) es) ≡ filter (λ action. not (is_below path action)) (waiting es)
others_wait path [] = refl
others_wait path (e ∷ es) =
    waiting_first (cancelled_at path e) (map (cancelled_at path) es)
    ∙ ap (λ (left : List Action). cond (is_waiting (cancelled_at path e).fate) ((cancelled_at path e).action ∷ left) left) (others_wait path es)
    ∙ by_two (is_below path e.action) (is_waiting e.fate) refl refl
    ∙ ap (filter (λ action. not (is_below path action))) (sym (waiting_first e es))
  where
    rest : List Action
    rest = filter (λ action. not (is_below path action)) (waiting es)

    ended : Established
    ended = record { action = e.action; fate = taken_back }

    by_two : (b w : Bool) → is_below path e.action ≡ b → is_waiting e.fate ≡ w → cond (is_waiting (cancelled_at path e).fate) ((cancelled_at path e).action ∷ rest) rest ≡ filter (λ action. not (is_below path action)) (cond (is_waiting e.fate) (e.action ∷ waiting es) (waiting es))
    by_two true true below waits_ =
        (λ i. let x : Established = cond (below i) (cond (waits_ i) ended e) e in cond (is_waiting x.fate) (x.action ∷ rest) rest)
        ∙ (λ i. cond (not (sym below i)) (e.action ∷ rest) rest)
        ∙ (λ i. filter (λ action. not (is_below path action)) (cond (sym waits_ i) (e.action ∷ waiting es) (waiting es)))
    by_two true false below waits_ =
        (λ i. let x : Established = cond (below i) (cond (waits_ i) ended e) e in cond (is_waiting x.fate) (x.action ∷ rest) rest)
        ∙ (λ i. cond (waits_ i) (e.action ∷ rest) rest)
        ∙ (λ i. filter (λ action. not (is_below path action)) (cond (sym waits_ i) (e.action ∷ waiting es) (waiting es)))
    by_two false true below waits_ =
        (λ i. let x : Established = cond (below i) (cond (waits_ i) ended e) e in cond (is_waiting x.fate) (x.action ∷ rest) rest)
        ∙ (λ i. cond (waits_ i) (e.action ∷ rest) rest)
        ∙ (λ i. cond (not (sym below i)) (e.action ∷ rest) rest)
        ∙ (λ i. filter (λ action. not (is_below path action)) (cond (sym waits_ i) (e.action ∷ waiting es) (waiting es)))
    by_two false false below waits_ =
        (λ i. let x : Established = cond (below i) (cond (waits_ i) ended e) e in cond (is_waiting x.fate) (x.action ∷ rest) rest)
        ∙ (λ i. cond (waits_ i) (e.action ∷ rest) rest)
        ∙ (λ i. filter (λ action. not (is_below path action)) (cond (sym waits_ i) (e.action ∷ waiting es) (waiting es)))

-- where the first comes to an end, those behind it wait
behind_wait : (fate : Fate) → is_waiting fate ≡ false → (es : List Established) → waiting (first_ended_by fate es) ≡ drop 1 (waiting es)
behind_wait fate ends [] = refl
behind_wait fate ends (e ∷ es) = by_fate (is_waiting e.fate) refl (behind_wait fate ends es)
  where
    by_fate : (b : Bool) → is_waiting e.fate ≡ b → waiting (first_ended_by fate es) ≡ drop 1 (waiting es) → waiting (cond (is_waiting e.fate) (cond (is_waiting e.fate) (record { action = e.action; fate = fate }) e ∷ es) (e ∷ first_ended_by fate es)) ≡ drop 1 (waiting (e ∷ es))
    by_fate true h rest =
        ap (λ (b : Bool). waiting (cond b (cond b (record { action = e.action; fate = fate }) e ∷ es) (e ∷ first_ended_by fate es))) h
        ∙ waiting_first (record { action = e.action; fate = fate }) es
        ∙ ap (λ (b : Bool). cond b (e.action ∷ waiting es) (waiting es)) ends
        ∙ sym (ap (drop 1) (waiting_first e es ∙ ap (λ (b : Bool). cond b (e.action ∷ waiting es) (waiting es)) h))
    by_fate false h rest =
        ap (λ (b : Bool). waiting (cond b (cond b (record { action = e.action; fate = fate }) e ∷ es) (e ∷ first_ended_by fate es))) h
        ∙ waiting_first e (first_ended_by fate es)
        ∙ ap (λ (b : Bool). cond b (e.action ∷ waiting (first_ended_by fate es)) (waiting (first_ended_by fate es))) h
        ∙ rest
        ∙ sym (ap (drop 1) (waiting_first e es ∙ ap (λ (b : Bool). cond b (e.action ∷ waiting es) (waiting es)) h))

-- what is refused changes nothing
refused_same : (event : Event) (refusal : Refusal) (es : List Established) → established_by event (Refused refusal) es ≡ es
refused_same Open refusal es = refl
refused_same Close refusal es = refl
refused_same (SignIn who) refusal es = refl
refused_same SignOut refusal es = refl
refused_same (Get path query) refusal es = refl
refused_same (Set write) refusal es = refl
refused_same (Remove path) refusal es = refl
refused_same (Update writes) refusal es = refl
refused_same (Listen id path query) refusal es = refl
refused_same (Unlisten id) refusal es = refl
refused_same Poll refusal es = refl
refused_same Tick refusal es = refl
refused_same (Deploy rules) refusal es = refl
refused_same (OnSet write) refusal es = refl
refused_same (OnRemove path) refusal es = refl
refused_same (OnUpdate writes) refusal es = refl
refused_same (OnCancel path) refusal es = refl
refused_same Leave refusal es = refl
refused_same RunNext refusal es = refl

-- ---- steps

-- what waits of each session is what the state has
abbrev pub AreWaiting : State → List Taken → Type 0
AreWaiting state steps = (session : ℕ) → waiting (established session steps) ≡ actions_of state session

module _ (old : State) (now n : ℕ) (steps : List Taken) (before : AreWaiting old steps) where
  -- what a call of the session that has this outcome leaves: at the session's number the list is changed so, and no other session's is another
  record Changes (event : Event) (o : Outcome) : Type 0 where
    own : waiting (established_by event o.reply (established n steps)) ≡ actions_of o.after n
    others : (q : ℕ) → eqb q n ≡ false → actions_of o.after q ≡ actions_of old q

  -- a list that stays, in a state whose actions stay
  same_changes : (event : Event) (o : Outcome) → established_by event o.reply (established n steps) ≡ established n steps → ((q : ℕ) → actions_of o.after q ≡ actions_of old q) → Changes event o
  same_changes event o list same = record { own = ap waiting list ∙ before n ∙ sym (same n); others = λ q _. same q }

  test_changes : (event : Event) (b : Bool) (refusal : Refusal) (o : Outcome) → (b ≡ false → Changes event o) → Changes event (cond b (refused old refusal) o)
  test_changes event true refusal o h = same_changes event (refused old refusal) (refused_same event refusal (established n steps)) (λ q. refl)
  test_changes event false refusal o h = h refl

  unless_changes : (event : Event) (r : Option Refusal) (o : Outcome) → Changes event o → Changes event (unless_refused old r o)
  unless_changes event None o h = h
  unless_changes event (Some refusal) o h = same_changes event (refused old refusal) (refused_same event refusal (established n steps)) (λ q. refl)

  -- ---- what leaves all actions

  with_stays : (who : Option Identity) (ls : List Listener) (q : ℕ) → actions_of (with_session old n who ls) q ≡ actions_of old q
  with_stays who ls q = actions-put_at old n (record (session_in old n) { identity = who; listeners = ls }) q ∙ at_number (eqb q n) refl
    where
      at_number : (b : Bool) → eqb q n ≡ b → cond b (actions_of old n) (actions_of old q) ≡ actions_of old q
      at_number true e = ap (actions_of old) (sym (eqb-true q n e))
      at_number false e = refl

  departing_stays : (q : ℕ) → actions_of (put_at old n (record (session_in old n) { leaving = true })) q ≡ actions_of old q
  departing_stays q = actions-put_at old n (record (session_in old n) { leaving = true }) q ∙ at_number (eqb q n) refl
    where
      at_number : (b : Bool) → eqb q n ≡ b → cond b (actions_of old n) (actions_of old q) ≡ actions_of old q
      at_number true e = ap (actions_of old) (sym (eqb-true q n e))
      at_number false e = refl

  opened_stays : is_open old n ≡ false → (q : ℕ) → actions_of (opened old n) q ≡ actions_of old q
  opened_stays closed_ q = actions-put_at old n fresh q ∙ at_number (eqb q n) refl
    where
      none : (o : Option Session) → is_some o ≡ false → [] ≡ (session_or_fresh o).actions
      none None h = refl
      none (Some one) h = absurd (false≢true (sym h))

      at_number : (b : Bool) → eqb q n ≡ b → cond b [] (actions_of old q) ≡ actions_of old q
      at_number true e = none (map_of.get old.sessions n) closed_ ∙ ap (actions_of old) (sym (eqb-true q n e))
      at_number false e = refl

  written_stays : (writes : List Write) (q : ℕ) → actions_of (written_to old now writes) q ≡ actions_of old q
  written_stays writes q = actions-again old.tree now (record { tree = tree_with old now writes; rules = old.rules; sessions = old.sessions }) q

  -- ---- what puts other actions

  put_changes : (event : Event) (reply : Reply) (base : State) (actions : List Action) → ((q : ℕ) → actions_of base q ≡ actions_of old q) → waiting (established_by event reply (established n steps)) ≡ actions → Changes event (record { reply = reply; after = with_actions base n actions })
  put_changes event reply base actions same is = record {
    own = is ∙ sym (slot n ∙ ap (λ (b : Bool). cond b actions (actions_of base n)) (eq-eqb n n refl));
    others = λ q e. slot q ∙ ap (λ (b : Bool). cond b actions (actions_of base q)) e ∙ same q;
  }
    where
      slot : (q : ℕ) → actions_of (with_actions base n actions) q ≡ cond (eqb q n) actions (actions_of base q)
      slot q = actions-put_at base n (record (session_in base n) { actions = actions }) q

  close_changes : Changes Close (record { reply = Closed (length (actions_of old n)); after = closed old n })
  close_changes = record {
    own = none_waits dropped refl (established n steps) ∙ sym (actions-without old n n ∙ ap (λ (b : Bool). cond b [] (actions_of old n)) (eq-eqb n n refl));
    others = λ q e. actions-without old n q ∙ ap (λ (b : Bool). cond b [] (actions_of old q)) e;
  }

  -- ---- each event

  keep_changes : (event : Event) (writes : List Write) → established_by event Done (established n steps) ≡ one_more writes (established n steps) → Changes event (keeps old now n writes)
  keep_changes event writes list =
      test_changes event (leb MAX_ACTIONS (length (actions_of old n))) TooManyActions _ (λ _.
      unless_changes event (denial (verdict_on old now n writes)) _
      (put_changes event Done old (actions_of old n ++ action_of writes ∷ []) (λ q. refl)
      (ap waiting list ∙ waiting_more writes (established n steps) ∙ ap (λ (left : List Action). left ++ action_of writes ∷ []) (before n))))

  make_changes : (event : Event) (writes : List Write) → established_by event Done (established n steps) ≡ established n steps → Changes event (unless_refused old (write_refusal old now n writes) (record { reply = Done; after = written_to old now writes }))
  make_changes event writes list = unless_changes event (write_refusal old now n writes) _ (same_changes event _ list (written_stays writes))

  run_changes : (action : Action) (others : List Action) → actions_of old n ≡ action ∷ others → (r : Option Refusal) → Changes RunNext (run_by old now n (writes_of action) others r)
  run_changes action others first None =
      put_changes RunNext (Ran Applied) (written_to old now (writes_of action)) others (written_stays (writes_of action))
      (behind_wait made refl (established n steps) ∙ ap (drop 1) (before n ∙ first))
  run_changes action others first (Some refusal) =
      put_changes RunNext (Ran (Skipped refusal)) old others (λ q. refl)
      (behind_wait (skipped refusal) refl (established n steps) ∙ ap (drop 1) (before n ∙ first))

  first_changes : (actions : List Action) → actions_of old n ≡ actions → Changes RunNext (runs_first old now n actions)
  first_changes [] is = same_changes RunNext _ refl (λ q. refl)
  first_changes (action ∷ others) is = run_changes action others is (write_refusal old now n (writes_of action))

  unbarred_changes : (event : Event) → Changes event (unbarred old now n event)
  unbarred_changes Open =
      test_changes Open (is_open old n) SessionOpen _ (λ closed_.
      test_changes Open (leb MAX_SESSIONS (map_of.len old.sessions)) TooManySessions _ (λ _. same_changes Open _ refl (opened_stays closed_)))
  unbarred_changes Close = test_changes Close (not (is_open old n)) NoSession _ (λ _. close_changes)
  unbarred_changes (SignIn who) = test_changes (SignIn who) (not (is_open old n)) NoSession _ (λ _. same_changes (SignIn who) _ refl (with_stays _ _))
  unbarred_changes SignOut = test_changes SignOut (not (is_open old n)) NoSession _ (λ _. same_changes SignOut _ refl (with_stays _ _))
  unbarred_changes (Get path query) =
      test_changes (Get path query) (not (is_open old n)) NoSession _ (λ _.
      unless_changes (Get path query) (read_refusal old now n path query) _ (same_changes (Get path query) _ refl (λ q. refl)))
  unbarred_changes (Set write) = test_changes (Set write) (not (is_open old n)) NoSession _ (λ _. make_changes (Set write) (write ∷ []) refl)
  unbarred_changes (Remove path) = test_changes (Remove path) (not (is_open old n)) NoSession _ (λ _. make_changes (Remove path) (removal path ∷ []) refl)
  unbarred_changes (Update writes) =
      let event = Update writes in
      test_changes event (not (is_open old n)) NoSession _ (λ _.
      test_changes event (length writes == 0) EmptyUpdate _ (λ _.
      test_changes event (overlaps writes) Overlap _ (λ _. make_changes event writes refl)))
  unbarred_changes (Listen id path query) =
      let event = Listen id path query in
      test_changes event (not (is_open old n)) NoSession _ (λ _.
      test_changes event (has_id id (listeners_of old n)) DuplicateId _ (λ _.
      test_changes event (leb MAX_LISTENERS (length (listeners_of old n))) TooManyListeners _ (λ _.
      unless_changes event (read_refusal old now n path query) _ (same_changes event _ refl (with_stays _ _)))))
  unbarred_changes (Unlisten id) =
      let event = Unlisten id in
      test_changes event (not (is_open old n)) NoSession _ (λ _.
      test_changes event (not (has_id id (listeners_of old n))) NoListener _ (λ _. same_changes event _ refl (with_stays _ _)))
  unbarred_changes Poll = test_changes Poll (not (is_open old n)) NoSession _ (λ _. same_changes Poll _ refl (with_stays _ _))
  unbarred_changes Tick = same_changes Tick _ refl (actions-again old.tree now old)
  unbarred_changes (Deploy rules) =
      let event = Deploy rules in
      test_changes event (not (is_open old n)) NoSession _ (λ _.
      test_changes event (not (is_admin (identity_of old n))) NotAdmin _ (λ _.
      same_changes event _ refl (actions-again old.tree now (record { tree = old.tree; rules = rules; sessions = old.sessions }))))
  unbarred_changes (OnSet write) = test_changes (OnSet write) (not (is_open old n)) NoSession _ (λ _. keep_changes (OnSet write) (write ∷ []) refl)
  unbarred_changes (OnRemove path) = test_changes (OnRemove path) (not (is_open old n)) NoSession _ (λ _. keep_changes (OnRemove path) (removal path ∷ []) refl)
  unbarred_changes (OnUpdate writes) =
      let event = OnUpdate writes in
      test_changes event (not (is_open old n)) NoSession _ (λ _.
      test_changes event (length writes == 0) EmptyUpdate _ (λ _.
      test_changes event (overlaps writes) Overlap _ (λ _. keep_changes event writes refl)))
  unbarred_changes (OnCancel path) =
      let event = OnCancel path in
      test_changes event (not (is_open old n)) NoSession _ (λ _.
      put_changes event Done old (filter (λ action. not (is_below path action)) (actions_of old n)) (λ q. refl)
      (others_wait path (established n steps) ∙ ap (filter (λ action. not (is_below path action))) (before n)))
  unbarred_changes Leave = test_changes Leave (not (is_open old n)) NoSession _ (λ _. same_changes Leave _ refl departing_stays)
  unbarred_changes RunNext =
      test_changes RunNext (not (is_open old n)) NoSession _ (λ _.
      test_changes RunNext (not (is_leaving old n)) NotLeaving _ (λ _. first_changes (actions_of old n) refl))

  outcome_changes : (event : Event) → Changes event (outcome old now n event)
  outcome_changes event = test_changes event (wants_presence event && is_leaving old n) Leaving _ (λ _. unbarred_changes event)

-- ---- steps and runs

abbrev Acts : State → Call → List Taken → Reply → State → Type 0
Acts old call steps reply new = AreWaiting new (record { old = old; call = call; reply = reply; new = new } ∷ steps)

pub step_acts : (old : State) (call : Call) (reply : Reply) (new : State) (steps : List Taken) → AreWaiting old steps → Step old call.now call.session call.event reply new → Acts old call steps reply new
unfolding Step
step_acts old call reply new steps before (inl h) = subst (λ (o : Outcome). Acts old call steps o.reply o.after) h by_outcome
  where
    o : Outcome
    o = outcome old call.now call.session call.event

    by_outcome : Acts old call steps o.reply o.after
    by_outcome q = by_number (eqb call.session q) refl
      where
        changes : Changes old call.now call.session steps before call.event o
        changes = outcome_changes old call.now call.session steps before call.event

        by_number : (b : Bool) → eqb call.session q ≡ b → waiting (cond b (established_by call.event o.reply (established q steps)) (established q steps)) ≡ actions_of o.after q
        by_number true e = subst (λ (m : ℕ). waiting (established_by call.event o.reply (established m steps)) ≡ actions_of o.after m) (eqb-true call.session q e) changes.own
        by_number false e = before q ∙ sym (changes.others q (turned call.session q e))
step_acts old call reply new steps before (inr h) =
    subst (λ (r : Reply). Acts old call steps r new) (sym h.0) (subst (λ (s : State). Acts old call steps (Refused NoMemory) s) (sym h.1) wanting)
  where
    wanting : Acts old call steps (Refused NoMemory) old
    wanting q = by_number (eqb call.session q)
      where
        by_number : (b : Bool) → waiting (cond b (established_by call.event (Refused NoMemory) (established q steps)) (established q steps)) ≡ actions_of old q
        by_number true = ap waiting (refused_same call.event NoMemory (established q steps)) ∙ before q
        by_number false = before q

pub run_acts : (earlier : List Taken) (old : State) (calls : List Call) (replies : List Reply) (new : State) (run : Run old calls replies new) → AreWaiting old earlier → AreWaiting new (steps_after earlier old calls replies new run)
run_acts earlier old [] [] new run before = subst (λ (s : State). AreWaiting s earlier) (sym run) before
run_acts earlier old (call ∷ calls) (reply ∷ replies) new run before =
    run_acts (record { old = old; call = call; reply = reply; new = run.0 } ∷ earlier) run.0 calls replies new run.2 (step_acts old call reply run.0 earlier before run.1)
run_acts earlier old [] (reply ∷ replies) new run before = absurd run
run_acts earlier old (call ∷ calls) [] new run before = absurd run

pub opening_acts : (rules : Book) (tree : Tree) → AreWaiting (opening rules tree) []
opening_acts rules tree q = sym (ap (λ (o : Option Session). (session_or_fresh o).actions) (map_of.get-empty nat_cmp q))

-- ---- what has ended stays as it is

ended_stays : (fate : Fate) (e : Established) → is_waiting e.fate ≡ false → ended_by fate e ≡ e
ended_stays fate e over = ap (λ (b : Bool). cond b (record { action = e.action; fate = fate }) e) over

cancelled_stays : (path : Path) (e : Established) → is_waiting e.fate ≡ false → cancelled_at path e ≡ e
cancelled_stays path e over = by_test (is_below path e.action)
  where
    by_test : (b : Bool) → cond b (ended_by taken_back e) e ≡ e
    by_test true = ended_stays taken_back e over
    by_test false = refl

-- at a place where it has ended
abbrev StaysAt : List Established → List Established → Type 0
StaysAt es fs = (i : ℕ) (d : Established) → i < length es → is_waiting (get_or es i d).fate ≡ false → get_or fs i d ≡ get_or es i d

map_stays : (f : Established → Established) → ((e : Established) → is_waiting e.fate ≡ false → f e ≡ e) → (es : List Established) → StaysAt es (map f es)
map_stays f stays [] i d low over = absurd (omega arith)
map_stays f stays (e ∷ es) zero d low over = stays e over
map_stays f stays (e ∷ es) (suc i) d low over = map_stays f stays es i d (omega arith) over

more_stays : (e : Established) (es : List Established) → StaysAt es (es ++ e ∷ [])
more_stays e [] i d low over = absurd (omega arith)
more_stays e (x ∷ es) zero d low over = refl
more_stays e (x ∷ es) (suc i) d low over = more_stays e es i d (omega arith) over

first_stays : (fate : Fate) (es : List Established) → StaysAt es (first_ended_by fate es)
first_stays fate [] i d low over = absurd (omega arith)
first_stays fate (e ∷ es) i d low over = by_fate (is_waiting e.fate) refl (λ j. first_stays fate es j d) i low over
  where
    by_fate : (b : Bool) → is_waiting e.fate ≡ b → ((j : ℕ) → j < length es → is_waiting (get_or es j d).fate ≡ false → get_or (first_ended_by fate es) j d ≡ get_or es j d) → (i : ℕ) → i < length (e ∷ es) → is_waiting (get_or (e ∷ es) i d).fate ≡ false → get_or (cond b (ended_by fate e ∷ es) (e ∷ first_ended_by fate es)) i d ≡ get_or (e ∷ es) i d
    by_fate true h rest zero low over = absurd (false≢true (sym over ∙ h))
    by_fate true h rest (suc i) low over = refl
    by_fate false h rest zero low over = refl
    by_fate false h rest (suc i) low over = rest i (omega arith) over

nothing_stays : (es : List Established) → StaysAt es es
nothing_stays es i d low over = refl

done_stays : (b : Bool) (es fs : List Established) → StaysAt es fs → StaysAt es (cond b fs es)
done_stays true es fs h = h
done_stays false es fs h = nothing_stays es

ran_stays : (reply : Reply) (es : List Established) → StaysAt es (run_in reply es)
ran_stays Done es = nothing_stays es
ran_stays (Value tree) es = nothing_stays es
ran_stays (News notices) es = nothing_stays es
ran_stays (Refused refusal) es = nothing_stays es
ran_stays (Ran Empty) es = nothing_stays es
ran_stays (Ran Applied) es = first_stays made es
ran_stays (Ran (Skipped refusal)) es = first_stays (skipped refusal) es
ran_stays (Closed left) es = nothing_stays es

event_stays : (event : Event) (reply : Reply) (es : List Established) → StaysAt es (established_by event reply es)
event_stays Open reply es = nothing_stays es
event_stays Close reply es = done_stays (is_done reply) es _ (map_stays (ended_by dropped) (ended_stays dropped) es)
event_stays (SignIn who) reply es = nothing_stays es
event_stays SignOut reply es = nothing_stays es
event_stays (Get path query) reply es = nothing_stays es
event_stays (Set write) reply es = nothing_stays es
event_stays (Remove path) reply es = nothing_stays es
event_stays (Update writes) reply es = nothing_stays es
event_stays (Listen id path query) reply es = nothing_stays es
event_stays (Unlisten id) reply es = nothing_stays es
event_stays Poll reply es = nothing_stays es
event_stays Tick reply es = nothing_stays es
event_stays (Deploy rules) reply es = nothing_stays es
event_stays (OnSet write) reply es = done_stays (is_done reply) es _ (more_stays _ es)
event_stays (OnRemove path) reply es = done_stays (is_done reply) es _ (more_stays _ es)
event_stays (OnUpdate writes) reply es = done_stays (is_done reply) es _ (more_stays _ es)
event_stays (OnCancel path) reply es = done_stays (is_done reply) es _ (map_stays (cancelled_at path) (cancelled_stays path) es)
event_stays Leave reply es = nothing_stays es
event_stays RunNext reply es = ran_stays reply es

pub step_stays : (session : ℕ) (t : Taken) (earlier : List Taken) → StaysAt (established session earlier) (established session (t ∷ earlier))
step_stays session t earlier = by_number (t.call.session == session)
  where
    by_number : (b : Bool) → StaysAt (established session earlier) (cond b (established_by t.call.event t.reply (established session earlier)) (established session earlier))
    by_number true = event_stays t.call.event t.reply (established session earlier)
    by_number false = nothing_stays (established session earlier)

-- ---- and no later step of a run changes it

-- as many were established, or more
as_long : (es : List Established) → length es ≤ length es
as_long es = omega arith

first_length : (fate : Fate) (es : List Established) → length (first_ended_by fate es) ≡ length es
first_length fate [] = refl
first_length fate (e ∷ es) = by_fate (is_waiting e.fate) (first_length fate es)
  where
    by_fate : (b : Bool) → length (first_ended_by fate es) ≡ length es → length (cond b (ended_by fate e ∷ es) (e ∷ first_ended_by fate es)) ≡ length (e ∷ es)
    by_fate true rest = refl
    by_fate false rest = ap suc rest

done_length : (b : Bool) (es fs : List Established) → length es ≤ length fs → length es ≤ length (cond b fs es)
done_length true es fs h = h
done_length false es fs h = as_long es

more_length : (e : Established) (es : List Established) → length es ≤ length (es ++ e ∷ [])
more_length e es = omega (arith, length-append es (e ∷ []))

map_length : (f : Established → Established) (es : List Established) → length es ≤ length (map f es)
map_length f es = omega (arith, length-map es f)

ran_length : (reply : Reply) (es : List Established) → length es ≤ length (run_in reply es)
ran_length (Ran Applied) es = omega (arith, first_length made es)
ran_length (Ran (Skipped refusal)) es = omega (arith, first_length (skipped refusal) es)
ran_length reply es = as_long es

event_length : (event : Event) (reply : Reply) (es : List Established) → length es ≤ length (established_by event reply es)
event_length Close reply es = done_length (is_done reply) es _ (map_length (ended_by dropped) es)
event_length (OnSet write) reply es = done_length (is_done reply) es _ (more_length _ es)
event_length (OnRemove path) reply es = done_length (is_done reply) es _ (more_length _ es)
event_length (OnUpdate writes) reply es = done_length (is_done reply) es _ (more_length _ es)
event_length (OnCancel path) reply es = done_length (is_done reply) es _ (map_length (cancelled_at path) es)
event_length RunNext reply es = ran_length reply es
event_length event reply es = as_long es

step_length : (session : ℕ) (t : Taken) (earlier : List Taken) → length (established session earlier) ≤ length (established session (t ∷ earlier))
step_length session t earlier = by_number (t.call.session == session)
  where
    by_number : (b : Bool) → length (established session earlier) ≤ length (cond b (established_by t.call.event t.reply (established session earlier)) (established session earlier))
    by_number true = event_length t.call.event t.reply (established session earlier)
    by_number false = as_long (established session earlier)

pub run_stays : (session : ℕ) (earlier : List Taken) (old : State) (calls : List Call) (replies : List Reply) (new : State) (run : Run old calls replies new) → StaysAt (established session earlier) (established session (steps_after earlier old calls replies new run))
run_stays session earlier old [] [] new run i d low over = refl
run_stays session earlier old [] (reply ∷ replies) new run i d low over = absurd run
run_stays session earlier old (call ∷ calls) [] new run i d low over = absurd run
run_stays session earlier old (call ∷ calls) (reply ∷ replies) new run i d low over =
    let t : Taken = record { old = old; call = call; reply = reply; new = run.0 } in
    let same : get_or (established session (t ∷ earlier)) i d ≡ get_or (established session earlier) i d = step_stays session t earlier i d low over in
    let long : length (established session earlier) ≤ length (established session (t ∷ earlier)) = step_length session t earlier in
    run_stays session (t ∷ earlier) run.0 calls replies new run.2 i d (omega (arith, low, long)) (ap (λ (e : Established). is_waiting e.fate) same ∙ over) ∙ same

-- ---- what is made

module _ (old : State) (now n : ℕ) (new : State) where
  abbrev Made : Outcome → Type 0
  Made o = o ≡ record { reply = Ran Applied; after = new } → (action : Action) × (others : List Action) × (actions_of old n ≡ action ∷ others) × (new ≡ with_actions (written_to old now (writes_of action)) n others)

  made_by : (action : Action) (others : List Action) → actions_of old n ≡ action ∷ others → (r : Option Refusal) → Made (run_by old now n (writes_of action) others r)
  made_by action others is None e = (action, others, is, sym (ap (λ (o : Outcome). o.after) e))
  made_by action others is (Some refusal) e = absurd (never (ap (λ (o : Outcome). o.reply) e))
    where
      never : Ran (Skipped refusal) ≡ Ran Applied → ⊥
      never f = cc

  made_first : (actions : List Action) → actions_of old n ≡ actions → Made (runs_first old now n actions)
  made_first [] is e = absurd (never (ap (λ (o : Outcome). o.reply) e))
    where
      never : Ran Empty ≡ Ran Applied → ⊥
      never f = cc
  made_first (action ∷ others) is e = made_by action others is (write_refusal old now n (writes_of action)) e

  made_unless : (b : Bool) (refusal : Refusal) (o : Outcome) → Made o → Made (cond b (refused old refusal) o)
  made_unless true refusal o h e = absurd (never (ap (λ (x : Outcome). x.reply) e))
    where
      never : Refused refusal ≡ Ran Applied → ⊥
      never f = cc
  made_unless false refusal o h e = h e

  pub step_makes : Step old now n RunNext (Ran Applied) new → (action : Action) × (others : List Action) × (actions_of old n ≡ action ∷ others) × (new ≡ with_actions (written_to old now (writes_of action)) n others)
  unfolding Step
  step_makes (inl h) = made_unless (not (is_open old n)) NoSession _ (made_unless (not (is_leaving old n)) NotLeaving _ (made_first (actions_of old n) refl)) h
  step_makes (inr h) = absurd (never h.0)
    where
      never : Ran Applied ≡ Refused NoMemory → ⊥
      never f = cc
