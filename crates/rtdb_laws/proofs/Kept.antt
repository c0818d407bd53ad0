-- Each step keeps what listeners owe to their history.
use Rattle.std.proofs.Common.{◌≡◌, ℕ, Bool, true, false, not, ◌&&◌, ◌||◌, cond, eqb, leb, List, [], ◌∷◌, ◌++◌, length, Option, Some, None, inl, inr, sym, ap, subst, ◌∙◌, refl}
use Rattle.std.proofs.lemmas.Bool.{false≢true, eq-eqb, eqb-true, and_right, or_parts}
use Rattle.std.proofs.lemmas.List.Elements.{All-nil, All-cons, All-push, All-map, All-filter, All-weaker}
use Rattle.std.specs.Prelude.{All, ◌==◌, filter, bytes_eq}
use Rattle.std.specs.FinMap as map_of
use Rattle.std.specs.Ordering.{nat_cmp}
use Rattle.tree_model.specs.Path.{Path}
use Rattle.tree_model.specs.Tree.{Tree, non_null}
use Rattle.tree_model.specs.Put.{overlaps}
use Rattle.tree_model.specs.Write.{Write}
use Rattle.tree_model.proofs.Orders.{bytes_eq-self, bytes_eq-swap}
use Rattle.evaluator.specs.Identity.{Identity}
use Rattle.rules_reader.specs.Book.{Book}
use Rattle.listeners.specs.declared.limits.TheConstants.{MAX_LISTENERS}
use Rattle.listeners.specs.Query.{Query}
use Rattle.listeners.specs.Table.{Listener, begun, has_id, without_id, unmarked, taken}
use Rattle.rtdb_model.specs.declared.limits.TheConstants.{MAX_SESSIONS, MAX_ACTIONS}
use Rattle.rtdb_model.specs.declared.event.Event.{Event}
use Rattle.rtdb_model.specs.declared.event.Event.TheVariants.{Open, Close, SignIn, SignOut, Get, Set, Remove, Update, Listen, Unlisten, Poll, Tick, Deploy, OnSet, OnRemove, OnUpdate, OnCancel, Leave, RunNext}
use Rattle.rtdb_model.specs.declared.reply.Refusal.{Refusal}
use Rattle.rtdb_model.specs.declared.reply.Refusal.TheVariants.{SessionOpen, TooManySessions, NoSession, NotAdmin, EmptyUpdate, Overlap, DuplicateId, TooManyListeners, NoListener, Leaving, TooManyActions, NotLeaving, NoMemory}
use Rattle.rtdb_model.specs.declared.reply.Reply.{Reply}
use Rattle.rtdb_model.specs.declared.reply.Reply.TheVariants.{Done, Value, News, Refused, Ran, Closed}
use Rattle.rtdb_model.specs.declared.reply.Ran.TheVariants.{Empty, Applied, Skipped}
use Rattle.rtdb_model.specs.State.{Action, State, opening, is_open, is_leaving, identity_of, listeners_in, listeners_of, actions_of, is_admin, scene_for}
use Rattle.rtdb_model.specs.Rejudged.{hears, selected_at, moves, judged_again, all_rejudged}
use Rattle.rtdb_model.specs.Step.{Outcome, refused, unless_refused, denial, verdict_on, read_refusal, write_refusal, opens, closed, closes, with_session, own_again, signs, gets, tree_with, written_to, makes, sets, removal, updates, listening, listens, unlistens, news_of, polls, deploys, writes_of, with_actions, with_action, keeps, keeps_one, keeps_update, without_actions, cancels, departing, leaves, run_by, runs_first, runs, wants_presence, unbarred, outcome, Step, Call, Run}
use Rattle.rtdb_model.specs.Marks.{Taken, steps_after, is_accepted, is_of_all, is_of_own, is_poll, asked_under, judges, hands_out, begins, IsHistory}
use Rattle.rtdb_model.proofs.Slots.{listeners-with, identity-with, listeners-without, listeners-again, identity-again}
use Rattle.rtdb_model.proofs.Sameness.{unmoved}
use Rattle.rtdb_model.proofs.Histories.{quiet, judged_once_more, handed_over, begins_here}
use Rattle.rtdb_laws.proofs.Present.{opened-with, AreAlike, alike_itself, actions_alike, departing_alike}

-- of all listeners of a state
abbrev pub AreHistory : State → List Taken → Type 0
AreHistory s steps = (n : ℕ) → All (λ l. IsHistory n l steps) (listeners_of s n)

-- ---- tests

abbrev Asked : Type 0
Asked = Option (Path × Option Query)

either_none : (b : Bool) → cond {A = Asked} b None None ≡ None
either_none true = refl
either_none false = refl

pub turned : (a b : ℕ) → eqb a b ≡ false → eqb b a ≡ false
turned a b h = not_same b a (λ e. false≢true (sym h ∙ eq-eqb a b (sym (eqb-true b a e))))
  where
    not_same : (a b : ℕ) → (eqb a b ≡ true → ⊥) → eqb a b ≡ false
    not_same a b h = elim (eqb a b) as (λ c. (c ≡ true → ⊥) → c ≡ false) [ true ↦ λ f. absurd (f refl) | false ↦ λ _. refl ] h

none_has : (id : List ℕ) (ls : List Listener) → has_id id ls ≡ false → All (λ l. bytes_eq id l.id ≡ false) ls
none_has id [] h = All-nil (λ (l : Listener). bytes_eq id l.id ≡ false)
none_has id (l ∷ ls) h = let parts = or_parts (bytes_eq id l.id) (has_id id ls) h in All-cons (λ (k : Listener). bytes_eq id k.id ≡ false) l ls parts.0 (none_has id ls parts.1)

module _ (old : State) (call : Call) (steps : List Taken) where
  -- the step that comes out so
  abbrev step_of : Outcome → Taken
  step_of o = record { old = old; call = call; reply = o.reply; new = o.after }

  abbrev Keeps : Outcome → Type 0
  Keeps o = AreHistory o.after (step_of o ∷ steps)

  abbrev own : Reply → Option Identity → List Listener → Outcome
  own reply who mine = record { reply = reply; after = with_session old call.session who mine }

  module _ (before : AreHistory old steps) where
    refused_keeps : (refusal : Refusal) → Keeps (refused old refusal)
    refused_keeps refusal n =
        All-weaker (λ l. IsHistory n l steps) (λ l. IsHistory n l (step_of (refused old refusal) ∷ steps))
        (λ l past. quiet n (step_of (refused old refusal)) steps l refl refl refl (unmoved old.tree l.path l.query) past)
        (listeners_of old n) (before n)

    test_keeps : (b : Bool) (refusal : Refusal) (o : Outcome) → (b ≡ false → Keeps o) → Keeps (cond b (refused old refusal) o)
    test_keeps true refusal o h = refused_keeps refusal
    test_keeps false refusal o h = h refl

    unless_keeps : (r : Option Refusal) (o : Outcome) → Keeps o → Keeps (unless_refused old r o)
    unless_keeps None o h = h
    unless_keeps (Some refusal) o h = refused_keeps refusal

    -- the listeners of another session, where the tree stays
    other_keeps : (o : Outcome) → o.after.tree ≡ old.tree → is_of_all call.event ≡ false → (n : ℕ) → eqb call.session n ≡ false → listeners_of o.after n ≡ listeners_of old n → All (λ l. IsHistory n l (step_of o ∷ steps)) (listeners_of o.after n)
    other_keeps o same all n apart slot =
        subst (λ (ls : List Listener). All (λ l. IsHistory n l (step_of o ∷ steps)) ls) (sym slot)
        (All-weaker (λ l. IsHistory n l steps) (λ l. IsHistory n l (step_of o ∷ steps))
        (λ l past. quiet n (step_of o) steps l
        (ap (λ (b : Bool). cond b (asked_under l.id call.event) None) (and_right (is_accepted o.reply) (eqb call.session n) apart))
        (and_right (is_accepted o.reply) (is_poll call.event && eqb call.session n) (and_right (is_poll call.event) (eqb call.session n) apart))
        (and_right (is_accepted o.reply) _ (ap (λ (c : Bool). c || (is_of_own call.event && eqb call.session n)) all ∙ and_right (is_of_own call.event) (eqb call.session n) apart))
        (ap (λ (tree : Tree). moves old.tree tree l.path l.query) same ∙ unmoved old.tree l.path l.query)
        past)
        (listeners_of old n) (before n))

    -- the session of the step is changed, and nothing else
    own_keeps : (reply : Reply) (who : Option Identity) (mine : List Listener) → is_of_all call.event ≡ false → All (λ l. IsHistory call.session l (step_of (own reply who mine) ∷ steps)) mine → Keeps (own reply who mine)
    own_keeps reply who mine all h n =
        elim (eqb n call.session) as (λ b. eqb n call.session ≡ b → All (λ l. IsHistory n l (step_of (own reply who mine) ∷ steps)) (listeners_of (own reply who mine).after n)) [
          | true ↦ λ e.
              subst (λ (ls : List Listener). All (λ l. IsHistory n l (step_of (own reply who mine) ∷ steps)) ls) (sym (slot true e))
              (subst (λ (m : ℕ). All (λ l. IsHistory m l (step_of (own reply who mine) ∷ steps)) mine) (sym (eqb-true n call.session e)) h)
          | false ↦ λ e. other_keeps (own reply who mine) refl all n (turned n call.session e) (slot false e)
        ] refl
      where
        slot : (b : Bool) → eqb n call.session ≡ b → listeners_of (own reply who mine).after n ≡ cond b mine (listeners_of old n)
        slot b e = listeners-with old call.session who mine n ∙ ap (λ (c : Bool). cond c mine (listeners_of old n)) e

    -- all listeners are judged again, and nothing else that they hang on is another
    all_keeps : (reply : Reply) (mid after : State) → mid.sessions ≡ old.sessions → AreAlike after (all_rejudged old.tree call.now mid) → is_accepted reply ≡ true → is_of_all call.event ≡ true → is_poll call.event ≡ false → ((id : List ℕ) → asked_under id call.event ≡ None) → Keeps (record { reply = reply; after = after })
    all_keeps reply mid after same alike accepted all poll none n =
        let o : Outcome = record { reply = reply; after = after } in
        let who = identity_of mid n in
        let signed : identity_of after n ≡ who = alike.identities n ∙ identity-again old.tree call.now mid n in
        subst (λ (ls : List Listener). All (λ l. IsHistory n l (step_of o ∷ steps)) ls) (sym (alike.listeners n ∙ listeners-again old.tree call.now mid n))
        (All-map (λ l. IsHistory n l (step_of o ∷ steps)) (judged_again old.tree mid call.now who) (listeners_of mid n)
        (All-weaker (λ l. IsHistory n l steps) (λ l. IsHistory n (judged_again old.tree mid call.now who l) (step_of o ∷ steps))
        (λ l past. judged_once_more n (step_of o) steps l (hears (scene_for mid call.now who) l.path l.query) (moves old.tree mid.tree l.path l.query)
        (ap (λ (a : Asked). cond (is_accepted reply && eqb call.session n) a None) (none l.id) ∙ either_none (is_accepted reply && eqb call.session n))
        (and_right (is_accepted reply) (is_poll call.event && eqb call.session n) (ap (λ (b : Bool). b && eqb call.session n) poll))
        (λ i. accepted i && (all i || (is_of_own call.event && eqb call.session n)))
        (λ i. hears (record { book = alike.rules i; who = signed i; moment = call.now; old = alike.tree i }) l.path l.query)
        (ap (λ (tree : Tree). moves old.tree tree l.path l.query) alike.tree)
        past)
        (listeners_of mid n)
        (subst (λ sessions. All (λ l. IsHistory n l steps) (listeners_of (record { tree = mid.tree; rules = mid.rules; sessions = sessions }) n)) (sym same) (before n))))

    -- the same, and nothing but the listeners is another
    only_all_keeps : (mid : State) → mid.sessions ≡ old.sessions → is_of_all call.event ≡ true → is_poll call.event ≡ false → ((id : List ℕ) → asked_under id call.event ≡ None) → Keeps (record { reply = Done; after = all_rejudged old.tree call.now mid })
    only_all_keeps mid same all poll none = all_keeps Done mid (all_rejudged old.tree call.now mid) same (alike_itself (all_rejudged old.tree call.now mid)) refl all poll none

    -- the step judges nothing, and nothing that listeners hang on is another
    alike_keeps : (o : Outcome) → AreAlike o.after old → ((n : ℕ) (id : List ℕ) → begins n id (step_of o) ≡ None) → ((n : ℕ) → hands_out n (step_of o) ≡ false) → ((n : ℕ) → judges n (step_of o) ≡ false) → Keeps o
    alike_keeps o alike starts hands judged n =
        subst (λ (ls : List Listener). All (λ l. IsHistory n l (step_of o ∷ steps)) ls) (sym (alike.listeners n))
        (All-weaker (λ l. IsHistory n l steps) (λ l. IsHistory n l (step_of o ∷ steps))
        (λ l past. quiet n (step_of o) steps l (starts n l.id) (hands n) (judged n)
        (ap (λ (tree : Tree). moves old.tree tree l.path l.query) alike.tree ∙ unmoved old.tree l.path l.query)
        past)
        (listeners_of old n) (before n))

    -- the step leaves all as it is, and judges nothing
    stays_keeps : (reply : Reply) → is_of_all call.event ≡ false → is_of_own call.event ≡ false → is_poll call.event ≡ false → ((id : List ℕ) → asked_under id call.event ≡ None) → Keeps (record { reply = reply; after = old })
    stays_keeps reply all own_ poll none =
        alike_keeps (record { reply = reply; after = old }) (alike_itself old)
        (λ n id. ap (λ (a : Asked). cond (is_accepted reply && eqb call.session n) a None) (none id) ∙ either_none (is_accepted reply && eqb call.session n))
        (λ n. and_right (is_accepted reply) (is_poll call.event && eqb call.session n) (ap (λ (b : Bool). b && eqb call.session n) poll))
        (λ n. and_right (is_accepted reply) _ (ap (λ (b : Bool). b || (is_of_own call.event && eqb call.session n)) all ∙ ap (λ (b : Bool). b && eqb call.session n) own_))

-- ---- each event

abbrev pub the_call : ℕ → ℕ → Event → Call
the_call now n event = record { now = now; session = n; event = event }

module _ (old : State) (now n : ℕ) (steps : List Taken) (before : AreHistory old steps) where
  abbrev KeepsAt : Event → Outcome → Type 0
  KeepsAt event o = Keeps old (the_call now n event) steps o

  abbrev stepped : Event → Outcome → Taken
  stepped event o = step_of old (the_call now n event) steps o

  own_slot : (who : Option Identity) (mine : List Listener) → identity_of (with_session old n who mine) n ≡ who
  own_slot who mine = identity-with old n who mine n ∙ ap (λ (b : Bool). cond b who (identity_of old n)) (eq-eqb n n refl)

  open_keeps : KeepsAt Open (opens old n)
  open_keeps =
      let call = the_call now n Open in
      test_keeps old call steps before (is_open old n) SessionOpen _ (λ shut.
      test_keeps old call steps before (leb MAX_SESSIONS (map_of.len old.sessions)) TooManySessions _ (λ _.
      subst (λ (s : State). KeepsAt Open (record { reply = Done; after = s })) (sym (opened-with old n shut))
      (own_keeps old call steps before Done None [] refl (All-nil (λ l. IsHistory n l (stepped Open (own old call steps Done None []) ∷ steps))))))

  close_keeps : KeepsAt Close (closes old n)
  close_keeps =
      let call = the_call now n Close in
      test_keeps old call steps before (not (is_open old n)) NoSession _ (λ _. gone)
    where
      gone : KeepsAt Close (record { reply = Closed (length (actions_of old n)); after = closed old n })
      gone m =
          let o : Outcome = record { reply = Closed (length (actions_of old n)); after = closed old n } in
          elim (eqb m n) as (λ b. eqb m n ≡ b → All (λ l. IsHistory m l (stepped Close o ∷ steps)) (listeners_of (closed old n) m)) [
            | true ↦ λ e. subst (λ (ls : List Listener). All (λ l. IsHistory m l (stepped Close o ∷ steps)) ls) (sym (slot m true e)) (All-nil (λ l. IsHistory m l (stepped Close o ∷ steps)))
            | false ↦ λ e. other_keeps old (the_call now n Close) steps before o refl refl m (turned m n e) (slot m false e)
          ] refl
        where
          slot : (m : ℕ) (b : Bool) → eqb m n ≡ b → listeners_of (closed old n) m ≡ cond b [] (listeners_of old m)
          slot m b e = listeners-without old n m ∙ ap (λ (c : Bool). cond c [] (listeners_of old m)) e

  -- where the session's own are judged
  sign_keeps : (event : Event) (who : Option Identity) → is_of_all event ≡ false → is_of_own event ≡ true → is_poll event ≡ false → ((id : List ℕ) → asked_under id event ≡ None) → KeepsAt event (signs old now n who)
  sign_keeps event who all mine poll none =
      let call = the_call now n event in
      let again = own_again old now n who in
      let T = stepped event (own old call steps Done who again) in
      test_keeps old call steps before (not (is_open old n)) NoSession _ (λ _.
      own_keeps old call steps before Done who again all
      (All-map (λ l. IsHistory n l (T ∷ steps)) (judged_again old.tree old now who) (listeners_of old n)
      (All-weaker (λ l. IsHistory n l steps) (λ l. IsHistory n (judged_again old.tree old now who l) (T ∷ steps))
      (λ l past. judged_once_more n T steps l (hears (scene_for old now who) l.path l.query) (moves old.tree old.tree l.path l.query)
      (ap (λ (a : Asked). cond (eqb n n) a None) (none l.id) ∙ either_none (eqb n n))
      (ap (λ (b : Bool). b && eqb n n) poll)
      (ap (λ (b : Bool). b || (is_of_own event && eqb n n)) all ∙ (ap (λ (b : Bool). b && eqb n n) mine ∙ eq-eqb n n refl))
      (ap (λ (w : Option Identity). hears (scene_for old now w) l.path l.query) (own_slot who again))
      refl
      past)
      (listeners_of old n) (before n))))

  get_keeps : (path : Path) (query : Option Query) → KeepsAt (Get path query) (gets old now n path query)
  get_keeps path query =
      let call = the_call now n (Get path query) in
      test_keeps old call steps before (not (is_open old n)) NoSession _ (λ _.
      unless_keeps old call steps before (read_refusal old now n path query) _
      (stays_keeps old call steps before _ refl refl refl (λ id. refl)))

  make_keeps : (event : Event) (writes : List Write) → is_of_all event ≡ true → is_poll event ≡ false → ((id : List ℕ) → asked_under id event ≡ None) → KeepsAt event (makes old now n writes)
  make_keeps event writes all poll none =
      unless_keeps old (the_call now n event) steps before (write_refusal old now n writes) _
      (only_all_keeps old (the_call now n event) steps before (record { tree = tree_with old now writes; rules = old.rules; sessions = old.sessions }) refl all poll none)

  set_keeps : (event : Event) (write : Write) → is_of_all event ≡ true → is_poll event ≡ false → ((id : List ℕ) → asked_under id event ≡ None) → KeepsAt event (sets old now n write)
  set_keeps event write all poll none =
      test_keeps old (the_call now n event) steps before (not (is_open old n)) NoSession _ (λ _. make_keeps event (write ∷ []) all poll none)

  update_keeps : (writes : List Write) → KeepsAt (Update writes) (updates old now n writes)
  update_keeps writes =
      let call = the_call now n (Update writes) in
      test_keeps old call steps before (not (is_open old n)) NoSession _ (λ _.
      test_keeps old call steps before (length writes == 0) EmptyUpdate _ (λ _.
      test_keeps old call steps before (overlaps writes) Overlap _ (λ _.
      make_keeps (Update writes) writes refl refl (λ id. refl))))

  listen_keeps : (id : List ℕ) (path : Path) (query : Option Query) → KeepsAt (Listen id path query) (listens old now n id path query)
  listen_keeps id path query =
      let event = Listen id path query in
      let call = the_call now n event in
      test_keeps old call steps before (not (is_open old n)) NoSession _ (λ _.
      test_keeps old call steps before (has_id id (listeners_of old n)) DuplicateId _ (λ unused.
      test_keeps old call steps before (leb MAX_LISTENERS (length (listeners_of old n))) TooManyListeners _ (λ _.
      unless_keeps old call steps before (read_refusal old now n path query) _ (added unused))))
    where
      reply : Reply
      reply = Value (non_null (selected_at old.tree path query))

      more : List Listener
      more = listeners_of old n ++ begun id path query ∷ []

      added : has_id id (listeners_of old n) ≡ false → KeepsAt (Listen id path query) (record { reply = reply; after = listening old n id path query })
      added unused =
          let event = Listen id path query in
          let call = the_call now n event in
          let T = stepped event (own old call steps reply (identity_of old n) more) in
          own_keeps old call steps before reply (identity_of old n) more refl
          (All-push (λ l. IsHistory n l (T ∷ steps)) (listeners_of old n) (begun id path query)
          (All-weaker (λ l. IsHistory n l steps × (bytes_eq id l.id ≡ false)) (λ l. IsHistory n l (T ∷ steps))
          (λ l both. quiet n T steps l
          (ap (λ (c : Bool). cond (eqb n n) (cond c (Some (path, query)) None) None) (bytes_eq-swap l.id id ∙ both.1) ∙ either_none (eqb n n))
          refl refl (unmoved old.tree l.path l.query) both.0)
          (listeners_of old n) (λ k d lt. (before n k d lt, none_has id (listeners_of old n) unused k d lt)))
          (begins_here n T steps id path query
          (ap (λ (c : Bool). cond c (cond (bytes_eq id id) (Some (path, query)) None) None) (eq-eqb n n refl) ∙ ap (λ (c : Bool). cond c (Some (path, query)) None) (bytes_eq-self id))))

  unlisten_keeps : (id : List ℕ) → KeepsAt (Unlisten id) (unlistens old n id)
  unlisten_keeps id =
      let event = Unlisten id in
      let call = the_call now n event in
      let left = without_id id (listeners_of old n) in
      let T = stepped event (own old call steps Done (identity_of old n) left) in
      test_keeps old call steps before (not (is_open old n)) NoSession _ (λ _.
      test_keeps old call steps before (not (has_id id (listeners_of old n))) NoListener _ (λ _.
      own_keeps old call steps before Done (identity_of old n) left refl
      (All-filter (λ l. not (bytes_eq id l.id)) (λ l. IsHistory n l (T ∷ steps)) (listeners_of old n)
      (All-weaker (λ l. IsHistory n l steps) (λ l. IsHistory n l (T ∷ steps))
      (λ l past. quiet n T steps l (either_none (eqb n n)) refl refl (unmoved old.tree l.path l.query) past)
      (listeners_of old n) (before n)))))

  poll_keeps : KeepsAt Poll (polls old now n)
  poll_keeps =
      let call = the_call now n Poll in
      let who = identity_of old n in
      let again = own_again old now n who in
      let reply = News (news_of old.tree again) in
      let T = stepped Poll (own old call steps reply who (taken again)) in
      test_keeps old call steps before (not (is_open old n)) NoSession _ (λ _.
      own_keeps old call steps before reply who (taken again) refl
      (All-map (λ l. IsHistory n l (T ∷ steps)) unmarked (filter (λ l. l.live) again)
      (All-filter (λ l. l.live) (λ l. IsHistory n (unmarked l) (T ∷ steps)) again
      (All-map (λ l. IsHistory n (unmarked l) (T ∷ steps)) (judged_again old.tree old now who) (listeners_of old n)
      (All-weaker (λ l. IsHistory n l steps) (λ l. IsHistory n (unmarked (judged_again old.tree old now who l)) (T ∷ steps))
      (λ l past. handed_over n T steps l (hears (scene_for old now who) l.path l.query) (moves old.tree old.tree l.path l.query)
      (either_none (eqb n n))
      (eq-eqb n n refl)
      (eq-eqb n n refl)
      (ap (λ (w : Option Identity). hears (scene_for old now w) l.path l.query) (own_slot who (taken again)))
      past)
      (listeners_of old n) (before n))))))

  deploy_keeps : (rules : Book) → KeepsAt (Deploy rules) (deploys old now n rules)
  deploy_keeps rules =
      let call = the_call now n (Deploy rules) in
      test_keeps old call steps before (not (is_open old n)) NoSession _ (λ _.
      test_keeps old call steps before (not (is_admin (identity_of old n))) NotAdmin _ (λ _.
      only_all_keeps old call steps before (record { tree = old.tree; rules = rules; sessions = old.sessions }) refl refl refl (λ id. refl)))

  -- ---- what is written when a session goes

  -- it is done, and nobody is judged
  quiet_keeps : (event : Event) (new : State) → AreAlike new old → is_of_all event ≡ false → is_of_own event ≡ false → is_poll event ≡ false → ((id : List ℕ) → asked_under id event ≡ None) → KeepsAt event (record { reply = Done; after = new })
  quiet_keeps event new alike all own_ poll none =
      alike_keeps old (the_call now n event) steps before (record { reply = Done; after = new }) alike
      (λ m id. ap (λ (a : Asked). cond (eqb n m) a None) (none id) ∙ either_none (eqb n m))
      (λ m. ap (λ (b : Bool). b && eqb n m) poll)
      (λ m. ap (λ (b : Bool). b || (is_of_own event && eqb n m)) all ∙ ap (λ (b : Bool). b && eqb n m) own_)

  keep_keeps : (event : Event) (writes : List Write) → is_of_all event ≡ false → is_of_own event ≡ false → is_poll event ≡ false → ((id : List ℕ) → asked_under id event ≡ None) → KeepsAt event (keeps old now n writes)
  keep_keeps event writes all own_ poll none =
      let call = the_call now n event in
      test_keeps old call steps before (leb MAX_ACTIONS (length (actions_of old n))) TooManyActions _ (λ _.
      unless_keeps old call steps before (denial (verdict_on old now n writes)) _
      (quiet_keeps event (with_action old n writes) (actions_alike old n _) all own_ poll none))

  keep_one_keeps : (event : Event) (write : Write) → is_of_all event ≡ false → is_of_own event ≡ false → is_poll event ≡ false → ((id : List ℕ) → asked_under id event ≡ None) → KeepsAt event (keeps_one old now n write)
  keep_one_keeps event write all own_ poll none =
      test_keeps old (the_call now n event) steps before (not (is_open old n)) NoSession _ (λ _. keep_keeps event (write ∷ []) all own_ poll none)

  keep_update_keeps : (writes : List Write) → KeepsAt (OnUpdate writes) (keeps_update old now n writes)
  keep_update_keeps writes =
      let call = the_call now n (OnUpdate writes) in
      test_keeps old call steps before (not (is_open old n)) NoSession _ (λ _.
      test_keeps old call steps before (length writes == 0) EmptyUpdate _ (λ _.
      test_keeps old call steps before (overlaps writes) Overlap _ (λ _.
      keep_keeps (OnUpdate writes) writes refl refl refl (λ id. refl))))

  cancel_keeps : (path : Path) → KeepsAt (OnCancel path) (cancels old n path)
  cancel_keeps path =
      test_keeps old (the_call now n (OnCancel path)) steps before (not (is_open old n)) NoSession _ (λ _.
      quiet_keeps (OnCancel path) (without_actions old n path) (actions_alike old n _) refl refl refl (λ id. refl))

  leave_keeps : KeepsAt Leave (leaves old n)
  leave_keeps =
      test_keeps old (the_call now n Leave) steps before (not (is_open old n)) NoSession _ (λ _.
      quiet_keeps Leave (departing old n) (departing_alike old n) refl refl refl (λ id. refl))

  run_keeps_by : (writes : List Write) (others : List Action) (r : Option Refusal) → KeepsAt RunNext (run_by old now n writes others r)
  run_keeps_by writes others None =
      all_keeps old (the_call now n RunNext) steps before (Ran Applied) (record { tree = tree_with old now writes; rules = old.rules; sessions = old.sessions }) (with_actions (written_to old now writes) n others) refl
      (actions_alike (written_to old now writes) n others) refl refl refl (λ id. refl)
  run_keeps_by writes others (Some refusal) =
      alike_keeps old (the_call now n RunNext) steps before (record { reply = Ran (Skipped refusal); after = with_actions old n others }) (actions_alike old n others) (λ m id. refl) (λ m. refl) (λ m. refl)

  first_keeps : (actions : List Action) → KeepsAt RunNext (runs_first old now n actions)
  first_keeps [] = alike_keeps old (the_call now n RunNext) steps before (record { reply = Ran Empty; after = old }) (alike_itself old) (λ m id. refl) (λ m. refl) (λ m. refl)
  first_keeps (action ∷ others) = run_keeps_by (writes_of action) others (write_refusal old now n (writes_of action))

  next_keeps : KeepsAt RunNext (runs old now n)
  next_keeps =
      let call = the_call now n RunNext in
      test_keeps old call steps before (not (is_open old n)) NoSession _ (λ _.
      test_keeps old call steps before (not (is_leaving old n)) NotLeaving _ (λ _.
      first_keeps (actions_of old n)))

  -- ---- all events

  unbarred_keeps : (event : Event) → KeepsAt event (unbarred old now n event)
  unbarred_keeps Open = open_keeps
  unbarred_keeps Close = close_keeps
  unbarred_keeps (SignIn who) = sign_keeps (SignIn who) (Some who) refl refl refl (λ id. refl)
  unbarred_keeps SignOut = sign_keeps SignOut None refl refl refl (λ id. refl)
  unbarred_keeps (Get path query) = get_keeps path query
  unbarred_keeps (Set write) = set_keeps (Set write) write refl refl (λ id. refl)
  unbarred_keeps (Remove path) = set_keeps (Remove path) (removal path) refl refl (λ id. refl)
  unbarred_keeps (Update writes) = update_keeps writes
  unbarred_keeps (Listen id path query) = listen_keeps id path query
  unbarred_keeps (Unlisten id) = unlisten_keeps id
  unbarred_keeps Poll = poll_keeps
  unbarred_keeps Tick = only_all_keeps old (the_call now n Tick) steps before old refl refl refl (λ id. refl)
  unbarred_keeps (Deploy rules) = deploy_keeps rules
  unbarred_keeps (OnSet write) = keep_one_keeps (OnSet write) write refl refl refl (λ id. refl)
  unbarred_keeps (OnRemove path) = keep_one_keeps (OnRemove path) (removal path) refl refl refl (λ id. refl)
  unbarred_keeps (OnUpdate writes) = keep_update_keeps writes
  unbarred_keeps (OnCancel path) = cancel_keeps path
  unbarred_keeps Leave = leave_keeps
  unbarred_keeps RunNext = next_keeps

  outcome_keeps : (event : Event) → KeepsAt event (outcome old now n event)
  outcome_keeps event = test_keeps old (the_call now n event) steps before (wants_presence event && is_leaving old n) Leaving _ (λ _. unbarred_keeps event)

-- ---- steps and runs

-- of the state after a step that was taken so
abbrev AfterStep : State → Call → List Taken → Reply → State → Type 0
AfterStep old call steps reply new = AreHistory new (record { old = old; call = call; reply = reply; new = new } ∷ steps)

pub step_keeps : (old : State) (call : Call) (reply : Reply) (new : State) (steps : List Taken) → AreHistory old steps → Step old call.now call.session call.event reply new → AfterStep old call steps reply new
unfolding Step
step_keeps old call reply new steps before (inl h) =
    subst (λ (o : Outcome). AfterStep old call steps o.reply o.after) h (outcome_keeps old call.now call.session steps before call.event)
step_keeps old call reply new steps before (inr h) =
    subst (λ (r : Reply). AfterStep old call steps r new) (sym h.0) (subst (λ (s : State). AfterStep old call steps (Refused NoMemory) s) (sym h.1) (refused_keeps old call steps before NoMemory))

pub run_keeps : (earlier : List Taken) (old : State) (calls : List Call) (replies : List Reply) (new : State) (run : Run old calls replies new) → AreHistory old earlier → AreHistory new (steps_after earlier old calls replies new run)
run_keeps earlier old [] [] new run before = subst (λ (s : State). AreHistory s earlier) (sym run) before
run_keeps earlier old (call ∷ calls) (reply ∷ replies) new run before = run_keeps (record { old = old; call = call; reply = reply; new = run.0 } ∷ earlier) run.0 calls replies new run.2 (step_keeps old call reply run.0 earlier before run.1)
run_keeps earlier old [] (reply ∷ replies) new run before = absurd run
run_keeps earlier old (call ∷ calls) [] new run before = absurd run

pub opening_keeps : (rules : Book) (tree : Tree) → AreHistory (opening rules tree) []
opening_keeps rules tree n = subst (λ (ls : List Listener). All (λ l. IsHistory n l []) ls) (sym (ap listeners_in (map_of.get-empty nat_cmp n))) (All-nil (λ l. IsHistory n l []))
