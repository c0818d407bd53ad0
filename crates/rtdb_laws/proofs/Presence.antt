-- Which sessions are open, and which are leaving, step by step.
use Rattle.std.proofs.Common.{◌≡◌, ◌&&◌, ℕ, Bool, true, false, not, cond, eqb, leb, List, [], ◌∷◌, length, Option, Some, None, is_some, option_map, inl, inr, refl, sym, ap, subst, ◌∙◌}
use Rattle.std.proofs.lemmas.Bool.{eq-eqb, eqb-true}
use Rattle.std.specs.Prelude.{◌==◌, filter}
use Rattle.std.specs.FinMap as map_of
use Rattle.std.specs.Cmp.{nat_cmp_total}
use Rattle.tree_model.specs.Tree.{Tree}
use Rattle.tree_model.specs.Put.{overlaps}
use Rattle.tree_model.specs.Write.{Write}
use Rattle.evaluator.specs.Identity.{Identity}
use Rattle.listeners.specs.declared.limits.TheConstants.{MAX_LISTENERS}
use Rattle.listeners.specs.Table.{Listener, has_id}
use Rattle.rtdb_model.specs.declared.limits.TheConstants.{MAX_SESSIONS, MAX_ACTIONS}
use Rattle.rtdb_model.specs.declared.event.Event.{Event}
use Rattle.rtdb_model.specs.declared.event.Event.TheVariants.{Open, Close, SignIn, SignOut, Get, Set, Remove, Update, Listen, Unlisten, Poll, Tick, Deploy, OnSet, OnRemove, OnUpdate, OnCancel, Leave, RunNext}
use Rattle.rtdb_model.specs.declared.reply.Refusal.{Refusal}
use Rattle.rtdb_model.specs.declared.reply.Refusal.TheVariants.{SessionOpen, TooManySessions, NoSession, NotAdmin, EmptyUpdate, Overlap, DuplicateId, TooManyListeners, NoListener, Leaving, TooManyActions, NotLeaving, NoMemory}
use Rattle.rtdb_model.specs.declared.reply.Reply.{Reply}
use Rattle.rtdb_model.specs.declared.reply.Reply.TheVariants.{Done, Refused, Closed}
use Rattle.rtdb_model.specs.State.{Action, State, Session, fresh, session_or_fresh, session_in, is_open, is_leaving, identity_of, listeners_of, actions_of, is_admin}
use Rattle.rtdb_model.specs.Rejudged.{rejudged, all_rejudged}
use Rattle.rtdb_model.specs.Step.{Outcome, refused, unless_refused, denial, verdict_on, read_refusal, write_refusal, opened, closed, with_session, own_again, signs, tree_with, written_to, removal, writes_of, with_actions, keeps, is_below, departing, run_by, runs_first, wants_presence, unbarred, outcome, Step, Call, Run}
use Rattle.rtdb_model.specs.Headline.{is_done}
use Rattle.rtdb_model.proofs.Slots.{put_at, is_same, get-put_at, get-each, open-again, open-without}
use Rattle.rtdb_laws.specs.Presence.{open_by, leaving_by, open_after, leaving_after}

-- ---- what a changed state has at the number of a session

abbrev pub leaving_in : Option Session → Bool
leaving_in o = (session_or_fresh o).leaving

module _ (s : State) (n : ℕ) (one : Session) (q : ℕ) where
  open-put_at : is_open (put_at s n one) q ≡ cond (eqb q n) true (is_open s q)
  open-put_at = ap is_some (get-put_at s n one q) ∙ inside (eqb q n)
    where
      inside : (b : Bool) → is_some (cond b (Some one) (map_of.get s.sessions q)) ≡ cond b true (is_open s q)
      inside true = refl
      inside false = refl

  pub leaving-put_at : is_leaving (put_at s n one) q ≡ cond (eqb q n) one.leaving (is_leaving s q)
  leaving-put_at = ap leaving_in (get-put_at s n one q) ∙ inside (eqb q n)
    where
      inside : (b : Bool) → leaving_in (cond b (Some one) (map_of.get s.sessions q)) ≡ cond b one.leaving (is_leaving s q)
      inside true = refl
      inside false = refl

leaving-without : (s : State) (n q : ℕ) → is_leaving (closed s n) q ≡ cond (eqb q n) false (is_leaving s q)
leaving-without s n q =
    ap leaving_in (map_of.get-remove nat_cmp_total s.sessions n q ∙ ap (λ (b : Bool). cond b None (map_of.get s.sessions q)) (is_same q n))
    ∙ inside (eqb q n)
  where
    inside : (b : Bool) → leaving_in (cond b None (map_of.get s.sessions q)) ≡ cond b false (is_leaving s q)
    inside true = refl
    inside false = refl

pub leaving-again : (old : Tree) (now : ℕ) (new : State) (q : ℕ) → is_leaving (all_rejudged old now new) q ≡ is_leaving new q
leaving-again old now new q = ap leaving_in (get-each (rejudged old new now) new.sessions q) ∙ inside (map_of.get new.sessions q)
  where
    inside : (o : Option Session) → leaving_in (option_map (rejudged old new now) o) ≡ leaving_in o
    inside None = refl
    inside (Some one) = refl

-- ---- what each event leaves

-- both are at the session as they were
abbrev pub IsAsBefore : State → State → ℕ → Type 0
IsAsBefore old new q = (is_open new q ≡ is_open old q) × (is_leaving new q ≡ is_leaving old q)

either_way : (d b c : Bool) → c ≡ b → b ≡ cond d c b
either_way true b c e = sym e
either_way false b c e = refl

module _ (old : State) (now n : ℕ) where
  -- what a call of the session that has this outcome leaves: at the session's number as the event says, and at no other another
  record Presents (event : Event) (o : Outcome) : Type 0 where
    here : is_open o.after n ≡ cond (is_done o.reply) (open_by event (is_open old n)) (is_open old n)
    leaving : is_leaving o.after n ≡ cond (is_done o.reply) (leaving_by event (is_leaving old n)) (is_leaving old n)
    others : (q : ℕ) → eqb q n ≡ false → IsAsBefore old o.after q

  same_presents : (event : Event) (o : Outcome) → open_by event (is_open old n) ≡ is_open old n → leaving_by event (is_leaving old n) ≡ is_leaving old n → ((q : ℕ) → IsAsBefore old o.after q) → Presents event o
  same_presents event o opens leaves same = record {
    here = (same n).0 ∙ either_way (is_done o.reply) (is_open old n) (open_by event (is_open old n)) opens;
    leaving = (same n).1 ∙ either_way (is_done o.reply) (is_leaving old n) (leaving_by event (is_leaving old n)) leaves;
    others = λ q _. same q;
  }

  refused_presents : (event : Event) (refusal : Refusal) → Presents event (refused old refusal)
  refused_presents event refusal = record { here = refl; leaving = refl; others = λ q _. (refl, refl) }

  test_presents : (event : Event) (b : Bool) (refusal : Refusal) (o : Outcome) → (b ≡ false → Presents event o) → Presents event (cond b (refused old refusal) o)
  test_presents event true refusal o h = refused_presents event refusal
  test_presents event false refusal o h = h refl

  unless_presents : (event : Event) (r : Option Refusal) (o : Outcome) → Presents event o → Presents event (unless_refused old r o)
  unless_presents event None o h = h
  unless_presents event (Some refusal) o h = refused_presents event refusal

  -- ---- what leaves both

  -- a session that is put where one is open, with the same leaving
  put_same : (base : State) (one : Session) → ((q : ℕ) → IsAsBefore old base q) → is_open old n ≡ true → one.leaving ≡ is_leaving old n → (q : ℕ) → IsAsBefore old (put_at base n one) q
  put_same base one same here leaving q =
      let both = by_number (eqb q n) refl in
      (open-put_at base n one q ∙ both.0, leaving-put_at base n one q ∙ both.1)
    where
      by_number : (b : Bool) → eqb q n ≡ b → (cond b true (is_open base q) ≡ is_open old q) × (cond b one.leaving (is_leaving base q) ≡ is_leaving old q)
      by_number true e = (sym here ∙ ap (is_open old) (sym (eqb-true q n e)), leaving ∙ ap (is_leaving old) (sym (eqb-true q n e)))
      by_number false e = same q

  with_same : (who : Option Identity) (mine : List Listener) → is_open old n ≡ true → (q : ℕ) → IsAsBefore old (with_session old n who mine) q
  with_same who mine here = put_same old (record (session_in old n) { identity = who; listeners = mine }) (λ q. (refl, refl)) here refl

  again_same : (mid : State) → ((q : ℕ) → IsAsBefore old mid q) → (q : ℕ) → IsAsBefore old (all_rejudged old.tree now mid) q
  again_same mid same q = (open-again old.tree now mid q ∙ (same q).0, leaving-again old.tree now mid q ∙ (same q).1)

  written_same : (writes : List Write) (q : ℕ) → IsAsBefore old (written_to old now writes) q
  written_same writes = again_same (record { tree = tree_with old now writes; rules = old.rules; sessions = old.sessions }) (λ q. (refl, refl))

  actions_same : (base : State) (actions : List Action) → ((q : ℕ) → IsAsBefore old base q) → is_open old n ≡ true → (q : ℕ) → IsAsBefore old (with_actions base n actions) q
  actions_same base actions same here = put_same base (record (session_in base n) { actions = actions }) same here ((same n).1)

  -- ---- each event

  here_is : (b : Bool) → not b ≡ false → b ≡ true
  here_is true e = refl
  here_is false e = sym e

  -- what an open session does
  open_presents : (event : Event) (o : Outcome) → (is_open old n ≡ true → Presents event o) → Presents event (cond (not (is_open old n)) (refused old NoSession) o)
  open_presents event o h = test_presents event (not (is_open old n)) NoSession o (λ e. h (here_is (is_open old n) e))

  opening_presents : Presents Open (record { reply = Done; after = opened old n })
  opening_presents = record {
    here = open-put_at old n fresh n ∙ ap (λ (b : Bool). cond b true (is_open old n)) (eq-eqb n n refl);
    leaving = leaving-put_at old n fresh n ∙ ap (λ (b : Bool). cond b false (is_leaving old n)) (eq-eqb n n refl);
    others = λ q e. (open-put_at old n fresh q ∙ ap (λ (b : Bool). cond b true (is_open old q)) e, leaving-put_at old n fresh q ∙ ap (λ (b : Bool). cond b false (is_leaving old q)) e);
  }

  closing_presents : (left : ℕ) → Presents Close (record { reply = Closed left; after = closed old n })
  closing_presents left = record {
    here = open-without old n n ∙ ap (λ (b : Bool). cond b false (is_open old n)) (eq-eqb n n refl);
    leaving = leaving-without old n n ∙ ap (λ (b : Bool). cond b false (is_leaving old n)) (eq-eqb n n refl);
    others = λ q e. (open-without old n q ∙ ap (λ (b : Bool). cond b false (is_open old q)) e, leaving-without old n q ∙ ap (λ (b : Bool). cond b false (is_leaving old q)) e);
  }

  departing_presents : is_open old n ≡ true → Presents Leave (record { reply = Done; after = departing old n })
  departing_presents here = record {
    here = open-put_at old n one n ∙ ap (λ (b : Bool). cond b true (is_open old n)) (eq-eqb n n refl) ∙ sym here;
    leaving = leaving-put_at old n one n ∙ ap (λ (b : Bool). cond b true (is_leaving old n)) (eq-eqb n n refl);
    others = λ q e. (open-put_at old n one q ∙ ap (λ (b : Bool). cond b true (is_open old q)) e, leaving-put_at old n one q ∙ ap (λ (b : Bool). cond b true (is_leaving old q)) e);
  }
    where
      one : Session
      one = record (session_in old n) { leaving = true }

  sign_presents : (event : Event) (who : Option Identity) → open_by event (is_open old n) ≡ is_open old n → leaving_by event (is_leaving old n) ≡ is_leaving old n → Presents event (signs old now n who)
  sign_presents event who opens leaves = open_presents event _ (λ here. same_presents event _ opens leaves (with_same who (own_again old now n who) here))

  make_presents : (event : Event) (writes : List Write) → open_by event (is_open old n) ≡ is_open old n → leaving_by event (is_leaving old n) ≡ is_leaving old n → Presents event (unless_refused old (write_refusal old now n writes) (record { reply = Done; after = written_to old now writes }))
  make_presents event writes opens leaves = unless_presents event (write_refusal old now n writes) _ (same_presents event _ opens leaves (written_same writes))

  keep_presents : (event : Event) (writes : List Write) → open_by event (is_open old n) ≡ is_open old n → leaving_by event (is_leaving old n) ≡ is_leaving old n → is_open old n ≡ true → Presents event (keeps old now n writes)
  keep_presents event writes opens leaves here =
      test_presents event (leb MAX_ACTIONS (length (actions_of old n))) TooManyActions _ (λ _.
      unless_presents event (denial (verdict_on old now n writes)) _
      (same_presents event _ opens leaves (actions_same old _ (λ q. (refl, refl)) here)))

  run_presents : (writes : List Write) (others : List Action) (r : Option Refusal) → is_open old n ≡ true → Presents RunNext (run_by old now n writes others r)
  run_presents writes others None here = same_presents RunNext _ refl refl (actions_same (written_to old now writes) others (written_same writes) here)
  run_presents writes others (Some refusal) here = same_presents RunNext _ refl refl (actions_same old others (λ q. (refl, refl)) here)

  first_presents : (actions : List Action) → is_open old n ≡ true → Presents RunNext (runs_first old now n actions)
  first_presents [] here = same_presents RunNext _ refl refl (λ q. (refl, refl))
  first_presents (action ∷ others) here = run_presents (writes_of action) others (write_refusal old now n (writes_of action)) here

  unbarred_presents : (event : Event) → Presents event (unbarred old now n event)
  unbarred_presents Open =
      test_presents Open (is_open old n) SessionOpen _ (λ _.
      test_presents Open (leb MAX_SESSIONS (map_of.len old.sessions)) TooManySessions _ (λ _. opening_presents))
  unbarred_presents Close = open_presents Close _ (λ _. closing_presents (length (actions_of old n)))
  unbarred_presents (SignIn who) = sign_presents (SignIn who) (Some who) refl refl
  unbarred_presents SignOut = sign_presents SignOut None refl refl
  unbarred_presents (Get path query) =
      open_presents (Get path query) _ (λ _.
      unless_presents (Get path query) (read_refusal old now n path query) _ (same_presents (Get path query) _ refl refl (λ q. (refl, refl))))
  unbarred_presents (Set write) = open_presents (Set write) _ (λ _. make_presents (Set write) (write ∷ []) refl refl)
  unbarred_presents (Remove path) = open_presents (Remove path) _ (λ _. make_presents (Remove path) (removal path ∷ []) refl refl)
  unbarred_presents (Update writes) =
      let event = Update writes in
      open_presents event _ (λ _.
      test_presents event (length writes == 0) EmptyUpdate _ (λ _.
      test_presents event (overlaps writes) Overlap _ (λ _. make_presents event writes refl refl)))
  unbarred_presents (Listen id path query) =
      let event = Listen id path query in
      open_presents event _ (λ here.
      test_presents event (has_id id (listeners_of old n)) DuplicateId _ (λ _.
      test_presents event (leb MAX_LISTENERS (length (listeners_of old n))) TooManyListeners _ (λ _.
      unless_presents event (read_refusal old now n path query) _ (same_presents event _ refl refl (with_same _ _ here)))))
  unbarred_presents (Unlisten id) =
      let event = Unlisten id in
      open_presents event _ (λ here.
      test_presents event (not (has_id id (listeners_of old n))) NoListener _ (λ _. same_presents event _ refl refl (with_same _ _ here)))
  unbarred_presents Poll = open_presents Poll _ (λ here. same_presents Poll _ refl refl (with_same _ _ here))
  unbarred_presents Tick = same_presents Tick _ refl refl (again_same old (λ q. (refl, refl)))
  unbarred_presents (Deploy rules) =
      let event = Deploy rules in
      open_presents event _ (λ _.
      test_presents event (not (is_admin (identity_of old n))) NotAdmin _ (λ _.
      same_presents event _ refl refl (again_same (record { tree = old.tree; rules = rules; sessions = old.sessions }) (λ q. (refl, refl)))))
  unbarred_presents (OnSet write) = open_presents (OnSet write) _ (keep_presents (OnSet write) (write ∷ []) refl refl)
  unbarred_presents (OnRemove path) = open_presents (OnRemove path) _ (keep_presents (OnRemove path) (removal path ∷ []) refl refl)
  unbarred_presents (OnUpdate writes) =
      let event = OnUpdate writes in
      open_presents event _ (λ here.
      test_presents event (length writes == 0) EmptyUpdate _ (λ _.
      test_presents event (overlaps writes) Overlap _ (λ _. keep_presents event writes refl refl here)))
  unbarred_presents (OnCancel path) =
      let event = OnCancel path in
      open_presents event _ (λ here.
      same_presents event _ refl refl (actions_same old (filter (λ action. not (is_below path action)) (actions_of old n)) (λ q. (refl, refl)) here))
  unbarred_presents Leave = open_presents Leave _ departing_presents
  unbarred_presents RunNext =
      open_presents RunNext _ (λ here.
      test_presents RunNext (not (is_leaving old n)) NotLeaving _ (λ _. first_presents (actions_of old n) here))

  outcome_presents : (event : Event) → Presents event (outcome old now n event)
  outcome_presents event = test_presents event (wants_presence event && is_leaving old n) Leaving _ (λ _. unbarred_presents event)

-- ---- steps and runs

abbrev pub open_in : ℕ → Call → Reply → Bool → Bool
open_in q call reply before = cond (is_done reply && eqb q call.session) (open_by call.event before) before

abbrev pub leaving_since : ℕ → Call → Reply → Bool → Bool
leaving_since q call reply before = cond (is_done reply && eqb q call.session) (leaving_by call.event before) before

abbrev AsTold : State → Call → Reply → State → ℕ → Type 0
AsTold old call reply new q = (is_open new q ≡ open_in q call reply (is_open old q)) × (is_leaving new q ≡ leaving_since q call reply (is_leaving old q))

-- a test that is joined to one that holds, or does not
joined : (d b : Bool) → b ≡ true → (d && b) ≡ d
joined true b e = e
joined false b e = refl

parted : (d b : Bool) → b ≡ false → (d && b) ≡ false
parted true b e = e
parted false b e = refl

step_presents : (old : State) (call : Call) (reply : Reply) (new : State) → Step old call.now call.session call.event reply new → (q : ℕ) → AsTold old call reply new q
unfolding Step
step_presents old call reply new (inl h) q = subst (λ (o : Outcome). AsTold old call o.reply o.after q) h (by_number (eqb q call.session) refl)
  where
    o : Outcome
    o = outcome old call.now call.session call.event

    presents : Presents old call.now call.session call.event o
    presents = outcome_presents old call.now call.session call.event

    by_number : (b : Bool) → eqb q call.session ≡ b → AsTold old call o.reply o.after q
    by_number true e =
        let d = is_done o.reply in
        let here : is_open o.after q ≡ cond d (open_by call.event (is_open old q)) (is_open old q) =
        subst (λ (m : ℕ). is_open o.after m ≡ cond (is_done o.reply) (open_by call.event (is_open old m)) (is_open old m)) (sym (eqb-true q call.session e)) presents.here in
        let leaving : is_leaving o.after q ≡ cond d (leaving_by call.event (is_leaving old q)) (is_leaving old q) =
        subst (λ (m : ℕ). is_leaving o.after m ≡ cond (is_done o.reply) (leaving_by call.event (is_leaving old m)) (is_leaving old m)) (sym (eqb-true q call.session e)) presents.leaving in (
          here ∙ ap (λ (b : Bool). cond b (open_by call.event (is_open old q)) (is_open old q)) (sym (joined (is_done o.reply) (eqb q call.session) e)),
          leaving ∙ ap (λ (b : Bool). cond b (leaving_by call.event (is_leaving old q)) (is_leaving old q)) (sym (joined (is_done o.reply) (eqb q call.session) e)),
        )
    by_number false e =
        let same = presents.others q e in (
          same.0 ∙ ap (λ (b : Bool). cond b (open_by call.event (is_open old q)) (is_open old q)) (sym (parted (is_done o.reply) (eqb q call.session) e)),
          same.1 ∙ ap (λ (b : Bool). cond b (leaving_by call.event (is_leaving old q)) (is_leaving old q)) (sym (parted (is_done o.reply) (eqb q call.session) e)),
        )
step_presents old call reply new (inr h) q =
    subst (λ (r : Reply). AsTold old call r new q) (sym h.0) (subst (λ (s : State). AsTold old call (Refused NoMemory) s q) (sym h.1) (refl, refl))

pub open_so : (old new : State) (calls : List Call) (replies : List Reply) → Run old calls replies new → (q : ℕ) → is_open new q ≡ open_after q (is_open old q) calls replies
open_so old new [] [] run q = ap (λ (s : State). is_open s q) run
open_so old new [] (reply ∷ replies) run q = absurd run
open_so old new (call ∷ calls) [] run q = absurd run
open_so old new (call ∷ calls) (reply ∷ replies) run q =
    open_so run.0 new calls replies run.2 q ∙ ap (λ (before : Bool). open_after q before calls replies) (step_presents old call reply run.0 run.1 q).0

pub leaving_so : (old new : State) (calls : List Call) (replies : List Reply) → Run old calls replies new → (q : ℕ) → is_leaving new q ≡ leaving_after q (is_leaving old q) calls replies
leaving_so old new [] [] run q = ap (λ (s : State). is_leaving s q) run
leaving_so old new [] (reply ∷ replies) run q = absurd run
leaving_so old new (call ∷ calls) [] run q = absurd run
leaving_so old new (call ∷ calls) (reply ∷ replies) run q =
    leaving_so run.0 new calls replies run.2 q ∙ ap (λ (before : Bool). leaving_after q before calls replies) (step_presents old call reply run.0 run.1 q).1
