-- What stops an event before any rule is asked, and what no rule can refuse.
use Rattle.std.proofs.Common.{◌≡◌, ◌≢◌, ◌==◌, ◌&&◌, ◌||◌, ◌≤◌, ◌⊎◌, inl, inr, ℕ, Bool, true, false, cond, not, List, [], ◌∷◌, length, Option, Some, None, refl, sym, ap, subst, ◌∙◌, arith}
use Rattle.std.proofs.lemmas.Bool.{false≢true, leb-true, eqb-true, and_right}
use Rattle.std.proofs.lemmas.Bool.Decides.{nat_tests}
use Rattle.std.specs.Prelude.{nat_le}
use Rattle.std.specs.Cmp.{first_so, second_so}
use Rattle.std.specs.FinMap as map_of
use Rattle.tree_model.specs.Path.{Path}
use Rattle.tree_model.specs.Tree.{Tree, count}
use Rattle.tree_model.specs.Put.{overlaps}
use Rattle.tree_model.specs.Draft.{Draft}
use Rattle.tree_model.specs.Write.{Write}
use Rattle.judge.specs.declared.verdict.Verdict.{Verdict}
use Rattle.judge.specs.declared.verdict.Verdict.TheVariants as verdicts
use Rattle.judge.specs.Tests.{read_verdict}
use Rattle.listeners.specs.declared.limits.TheConstants.{MAX_LISTENERS}
use Rattle.listeners.specs.Query.{Query}
use Rattle.listeners.specs.Table.{has_id}
use Rattle.rtdb_model.specs.declared.limits.TheConstants.{MAX_SESSIONS, MAX_ACTIONS, MAX_LOCATIONS}
use Rattle.rtdb_model.specs.declared.event.Event.{Event}
use Rattle.rtdb_model.specs.declared.event.Event.TheVariants.{Open, Close, SignIn, SignOut, Get, Set, Remove, Update, Listen, Unlisten, Poll, Tick, Deploy, OnSet, OnRemove, OnUpdate, OnCancel, Leave, RunNext}
use Rattle.rtdb_model.specs.declared.reply.Refusal.{Refusal}
use Rattle.rtdb_model.specs.declared.reply.Refusal.TheVariants.{SessionOpen, TooManySessions, NoSession, NotAdmin, EmptyUpdate, Overlap, DuplicateId, TooManyListeners, NoListener, Leaving, TooManyActions, NotLeaving, ReadDenied, WriteDenied, ValidateDenied, TreeFull, NoMemory, Spent}
use Rattle.rtdb_model.specs.declared.reply.Reply.{Reply}
use Rattle.rtdb_model.specs.declared.reply.Reply.TheVariants.{Done, Refused, Closed}
use Rattle.rtdb_model.specs.State.{Action, State, is_open, is_leaving, is_present, identity_of, listeners_of, actions_of, is_admin, scene_at}
use Rattle.rtdb_model.specs.Rejudged.{asked_for}
use Rattle.rtdb_model.specs.Step.{Outcome, refused, unless_refused, denial, full, or_full, tree_with, verdict_on, write_refusal, read_refusal, removal, written_to, makes, with_action, keeps, writes_of, run_by, runs_first, wants_presence, unbarred, outcome, takes_none, takes_no_memory}
use Rattle.rtdb_model.specs.Headline.{wants_session, is_early, KeepsFor, IsStopped, IsStoppedRightly, Leaves, owed, IsDoneRightly}
use Rattle.rtdb_laws.proofs.WriteJudging.{some_writes, no_writes}
use Rattle.rtdb_laws.proofs.Present.{not_true, leaving_is_open, closed_is_not_leaving, is_here, here_is_open, here_is_not_leaving}

-- ---- tests

not_false : (b : Bool) → not b ≡ false → b ≡ true
not_false true e = refl
not_false false e = sym e

or_true : (b : Bool) → (b || true) ≡ true
or_true true = refl
or_true false = refl

within : (a b : ℕ) → a ≤ b → nat_le a b ≡ true
within a b h = grind (arith, nat_tests)

at_true : (b : Bool) (o other : Outcome) (r : Reply) → b ≡ true → o.reply ≡ r → (cond b o other).reply ≡ r
at_true b o other r e h = ap (λ (c : Bool). (cond c o other).reply) e ∙ h

at_false : (b : Bool) (o other : Outcome) (r : Reply) → b ≡ false → other.reply ≡ r → (cond b o other).reply ≡ r
at_false b o other r e h = ap (λ (c : Bool). (cond c o other).reply) e ∙ h

same_refusal : (one other : Refusal) → Refused one ≡ Refused other → one ≡ other
same_refusal one other e = cc

-- no refusal of the rules or of room is early
abbrev AreLate : Option Refusal → Type 0
AreLate o = (refusal : Refusal) → o ≡ Some refusal → is_early refusal ≡ false

late : (refusal : Refusal) → is_early refusal ≡ false → AreLate (Some refusal)
late refusal h other e = ap is_early (sym (same e)) ∙ h
  where
    same : Some refusal ≡ Some other → refusal ≡ other
    same f = cc

none_late : AreLate None
none_late refusal e = cc

denial_late : (v : Verdict) → AreLate (denial v)
denial_late verdicts.Granted = none_late
denial_late (verdicts.ReadDenied named) = late (ReadDenied named) refl
denial_late (verdicts.WriteDenied at named) = late (WriteDenied at named) refl
denial_late (verdicts.ValidateDenied at pattern why) = late (ValidateDenied at pattern why) refl

full_late : (tree : Tree) → AreLate (full tree)
full_late tree = by_room (nat_le (count tree) MAX_LOCATIONS)
  where
    by_room : (b : Bool) → AreLate (cond b None (Some TreeFull))
    by_room true = none_late
    by_room false = late TreeFull refl

or_full_late : (o : Option Refusal) (tree : Tree) → AreLate o → AreLate (or_full o tree)
or_full_late None tree h = full_late tree
or_full_late (Some refusal) tree h = h

write_late : (old : State) (now session : ℕ) (writes : List Write) → AreLate (write_refusal old now session writes)
unfolding write_refusal
write_late old now session writes = or_full_late (denial (verdict_on old now session writes)) (tree_with old now writes) (denial_late (verdict_on old now session writes))

read_late : (old : State) (now session : ℕ) (path : Path) (query : Option Query) → AreLate (read_refusal old now session path query)
unfolding read_refusal
read_late old now session path query = denial_late (read_verdict (scene_at old now session) (asked_for query) path)

-- what is owed to an event that is done is no refusal
owes_no_refusal : (old : State) (session : ℕ) (event : Event) (refusal : Refusal) → owed old session event ≡ Refused refusal → ⊥
owes_no_refusal old session Close refusal e = closes_so (length (actions_of old session)) e
  where
    closes_so : (dropped : ℕ) → Closed dropped ≡ Refused refusal → ⊥
    closes_so dropped f = cc
owes_no_refusal old session event refusal e = done_so e
  where
    done_so : Done ≡ Refused refusal → ⊥
    done_so f = cc

module _ (old : State) (now session : ℕ) where
  abbrev shut : Bool
  shut = not (is_open old session)

  -- whoever is leaving is refused so
  abbrev barred : Event → Bool
  barred event = wants_presence event && is_leaving old session

  abbrev has_all : Bool
  has_all = nat_le MAX_ACTIONS (length (actions_of old session))

  -- what is answered unless the session is leaving, and what is answered
  abbrev answer_to : Event → Reply
  answer_to event = (unbarred old now session event).reply

  abbrev reply_to : Event → Reply
  reply_to event = (outcome old now session event).reply

  -- ---- what is stopped is refused so

  past_bar : (event : Event) (reply : Reply) → is_leaving old session ≡ false → answer_to event ≡ reply → reply_to event ≡ reply
  past_bar event reply stays h = at_false (barred event) _ _ _ (and_right (wants_presence event) (is_leaving old session) stays) h

  -- past the bar, and past a closed session
  past_door : (event : Event) (other : Outcome) (reply : Reply) → is_present old session ≡ true → answer_to event ≡ (cond shut (refused old NoSession) other).reply → other.reply ≡ reply → reply_to event ≡ reply
  past_door event other reply here is h = past_bar event reply (here_is_not_leaving old session here) (is ∙ at_false shut _ _ _ (ap not (here_is_open old session here)) h)

  closed_stops : (event : Event) → wants_session event ≡ true → is_open old session ≡ false → answer_to event ≡ Refused NoSession
  closed_stops Open wants e = absurd (false≢true wants)
  closed_stops Close wants e = at_true shut _ _ _ (ap not e) refl
  closed_stops (SignIn who) wants e = at_true shut _ _ _ (ap not e) refl
  closed_stops SignOut wants e = at_true shut _ _ _ (ap not e) refl
  closed_stops (Get path query) wants e = at_true shut _ _ _ (ap not e) refl
  closed_stops (Set write) wants e = at_true shut _ _ _ (ap not e) refl
  closed_stops (Remove path) wants e = at_true shut _ _ _ (ap not e) refl
  closed_stops (Update writes) wants e = at_true shut _ _ _ (ap not e) refl
  closed_stops (Listen id path query) wants e = at_true shut _ _ _ (ap not e) refl
  closed_stops (Unlisten id) wants e = at_true shut _ _ _ (ap not e) refl
  closed_stops Poll wants e = at_true shut _ _ _ (ap not e) refl
  closed_stops Tick wants e = absurd (false≢true wants)
  closed_stops (Deploy rules) wants e = at_true shut _ _ _ (ap not e) refl
  closed_stops (OnSet write) wants e = at_true shut _ _ _ (ap not e) refl
  closed_stops (OnRemove path) wants e = at_true shut _ _ _ (ap not e) refl
  closed_stops (OnUpdate writes) wants e = at_true shut _ _ _ (ap not e) refl
  closed_stops (OnCancel path) wants e = at_true shut _ _ _ (ap not e) refl
  closed_stops Leave wants e = at_true shut _ _ _ (ap not e) refl
  closed_stops RunNext wants e = at_true shut _ _ _ (ap not e) refl

  some_write : (w : Write) (ws : List Write) → length (w ∷ ws) == 0 ≡ false
  some_write w ws = by_length (length (w ∷ ws) == 0) refl
    where
      by_length : (b : Bool) → length (w ∷ ws) == 0 ≡ b → length (w ∷ ws) == 0 ≡ false
      by_length true g = let z : length (w ∷ ws) ≡ 0 = eqb-true (length (w ∷ ws)) 0 g in absurd (omega arith)
      by_length false g = g

  has_some : (writes : List Write) → writes ≢ [] → length writes == 0 ≡ false
  has_some [] some = absurd (some refl)
  has_some (w ∷ ws) some = some_write w ws

  empty_stops : (event : Event) → (event ≡ Update []) ⊎ (event ≡ OnUpdate []) → is_present old session ≡ true → reply_to event ≡ Refused EmptyUpdate
  empty_stops event (inl e) here = ap reply_to e ∙ past_door (Update []) _ _ here refl refl
  empty_stops event (inr e) here = ap reply_to e ∙ past_door (OnUpdate []) _ _ here refl refl

  -- what overlaps is no empty list
  overlap_stops : (event : Event) (writes : List Write) → (event ≡ Update writes) ⊎ (event ≡ OnUpdate writes) → is_present old session ≡ true → overlaps writes ≡ true → reply_to event ≡ Refused Overlap
  overlap_stops event [] is here f = absurd (false≢true f)
  overlap_stops event (w ∷ ws) (inl e) here f = ap reply_to e ∙ past_door (Update (w ∷ ws)) _ _ here refl (at_false (length (w ∷ ws) == 0) _ _ _ (some_write w ws) (at_true (overlaps (w ∷ ws)) _ _ _ f refl))
  overlap_stops event (w ∷ ws) (inr e) here f = ap reply_to e ∙ past_door (OnUpdate (w ∷ ws)) _ _ here refl (at_false (length (w ∷ ws) == 0) _ _ _ (some_write w ws) (at_true (overlaps (w ∷ ws)) _ _ _ f refl))

  -- where the session has as many actions as it may
  full_stops : (event : Event) (writes : List Write) → KeepsFor event writes → is_present old session ≡ true → writes ≢ [] → overlaps writes ≡ false → has_all ≡ true → reply_to event ≡ Refused TooManyActions
  full_stops Open writes kept here some apart all = absurd kept
  full_stops Close writes kept here some apart all = absurd kept
  full_stops (SignIn who) writes kept here some apart all = absurd kept
  full_stops SignOut writes kept here some apart all = absurd kept
  full_stops (Get path query) writes kept here some apart all = absurd kept
  full_stops (Set write) writes kept here some apart all = absurd kept
  full_stops (Remove path) writes kept here some apart all = absurd kept
  full_stops (Update asked) writes kept here some apart all = absurd kept
  full_stops (Listen id path query) writes kept here some apart all = absurd kept
  full_stops (Unlisten id) writes kept here some apart all = absurd kept
  full_stops Poll writes kept here some apart all = absurd kept
  full_stops Tick writes kept here some apart all = absurd kept
  full_stops (Deploy rules) writes kept here some apart all = absurd kept
  full_stops (OnSet write) writes kept here some apart all = past_door (OnSet write) _ _ here refl (at_true has_all _ _ _ all refl)
  full_stops (OnRemove path) writes kept here some apart all = past_door (OnRemove path) _ _ here refl (at_true has_all _ _ _ all refl)
  full_stops (OnUpdate asked) writes kept here some apart all =
      past_door (OnUpdate asked) _ _ here refl
      (at_false (length asked == 0) _ _ _ (has_some asked (λ e. some (kept ∙ e)))
      (at_false (overlaps asked) _ _ _ (ap (λ (ws : List Write). overlaps ws) (sym kept) ∙ apart)
      (at_true has_all _ _ _ all refl)))
  full_stops (OnCancel path) writes kept here some apart all = absurd kept
  full_stops Leave writes kept here some apart all = absurd kept
  full_stops RunNext writes kept here some apart all = absurd kept

  pub is_stopped : (event : Event) (refusal : Refusal) → IsStopped old session event refusal → reply_to event ≡ Refused refusal
  is_stopped event SessionOpen h = ap reply_to h.0 ∙ at_true (is_open old session) _ _ _ h.1 refl
  is_stopped event TooManySessions h = ap reply_to h.0 ∙ at_false (is_open old session) _ _ _ h.1 (at_true (nat_le MAX_SESSIONS (map_of.len old.sessions)) _ _ _ (within MAX_SESSIONS (map_of.len old.sessions) h.2) refl)
  is_stopped event NoSession h = past_bar event _ (closed_is_not_leaving old session h.1) (closed_stops event h.0 h.1)
  is_stopped event NotAdmin h = ap reply_to h.1 ∙ past_door (Deploy h.0) _ _ h.2 refl (at_true (not (is_admin (identity_of old session))) _ _ _ (ap not h.3) refl)
  is_stopped event EmptyUpdate h = empty_stops event h.0 h.1
  is_stopped event Overlap h = overlap_stops event h.0 h.1 h.2 h.3
  is_stopped event DuplicateId h = ap reply_to h.3 ∙ past_door (Listen h.0 h.1 h.2) _ _ h.4 refl (at_true (has_id h.0 (listeners_of old session)) _ _ _ h.5 refl)
  is_stopped event TooManyListeners h =
      ap reply_to h.3 ∙ past_door (Listen h.0 h.1 h.2) _ _ h.4 refl
      (at_false (has_id h.0 (listeners_of old session)) _ _ _ h.5
      (at_true (nat_le MAX_LISTENERS (length (listeners_of old session))) _ _ _ (within MAX_LISTENERS (length (listeners_of old session)) h.6) refl))
  is_stopped event NoListener h = ap reply_to h.1 ∙ past_door (Unlisten h.0) _ _ h.2 refl (at_true (not (has_id h.0 (listeners_of old session))) _ _ _ (ap not h.3) refl)
  is_stopped event Leaving h = at_true (barred event) _ _ _ (λ i. h.0 i && h.2 i) refl
  is_stopped event TooManyActions h = full_stops event h.0 h.1 h.2 h.3 h.4 (within MAX_ACTIONS (length (actions_of old session)) h.5)
  is_stopped event NotLeaving h = ap reply_to h.0 ∙ at_false shut _ _ _ (ap not h.1) (at_true (not (is_leaving old session)) _ _ _ (ap not h.2) refl)
  is_stopped event (ReadDenied named) h = absurd h
  is_stopped event (WriteDenied at named) h = absurd h
  is_stopped event (ValidateDenied at pattern why) h = absurd h
  is_stopped event TreeFull h = absurd h
  is_stopped event NoMemory h = absurd h
  is_stopped event Spent h = absurd h

  -- ---- what is refused so is stopped

  abbrev RefusedOnly : Event → Reply → Type 0
  RefusedOnly event reply = (refusal : Refusal) → is_early refusal ≡ true → reply ≡ Refused refusal → IsStopped old session event refusal

  abbrev StopsOnly : Event → Outcome → Type 0
  StopsOnly event o = RefusedOnly event o.reply

  by_stop : (event : Event) (one : Refusal) → IsStopped old session event one → StopsOnly event (refused old one)
  by_stop event one h refusal early e = subst (IsStopped old session event) (same_refusal one refusal e) h

  by_answer : (event : Event) (reply : Reply) → ((refusal : Refusal) → reply ≡ Refused refusal → ⊥) → RefusedOnly event reply
  by_answer event reply never refusal early e = absurd (never refusal e)

  by_rules : (event : Event) (o : Option Refusal) (other : Outcome) → AreLate o → StopsOnly event other → StopsOnly event (unless_refused old o other)
  by_rules event None other h g refusal early e = g refusal early e
  by_rules event (Some one) other h g refusal early e = absurd (false≢true (sym (h one refl) ∙ ap is_early (same_refusal one refusal e) ∙ early))

  either : (event : Event) (b : Bool) (o other : Outcome) → (b ≡ true → StopsOnly event o) → (b ≡ false → StopsOnly event other) → StopsOnly event (cond b o other)
  either event true o other f g = f refl
  either event false o other f g = g refl

  if_open : (event : Event) (other : Outcome) → wants_session event ≡ true → (is_open old session ≡ true → StopsOnly event other) → StopsOnly event (cond shut (refused old NoSession) other)
  if_open event other wants f = either event shut _ _ (λ e. by_stop event NoSession (wants, not_true (is_open old session) e)) (λ e. f (not_false (is_open old session) e))

  makes_only : (event : Event) (writes : List Write) → StopsOnly event (makes old now session writes)
  makes_only event writes = by_rules event (write_refusal old now session writes) (record { reply = Done; after = written_to old now writes }) (write_late old now session writes) (by_answer event _ (λ refusal e. cc))

  keeps_only : (event : Event) (writes : List Write) → KeepsFor event writes → is_present old session ≡ true → writes ≢ [] → overlaps writes ≡ false → StopsOnly event (keeps old now session writes)
  keeps_only event writes kept here some apart =
      either event has_all _ _ (λ f. by_stop event TooManyActions (writes, kept, here, some, apart, leb-true MAX_ACTIONS (length (actions_of old session)) f))
      (λ f. by_rules event (denial (verdict_on old now session writes)) (record { reply = Done; after = with_action old session writes }) (denial_late (verdict_on old now session writes)) (by_answer event _ (λ refusal e. cc)))

  run_only : (writes : List Write) (others : List Action) (o : Option Refusal) → StopsOnly RunNext (run_by old now session writes others o)
  run_only writes others None = by_answer RunNext _ (λ refusal e. cc)
  run_only writes others (Some one) = by_answer RunNext _ (λ refusal e. cc)

  first_only : (actions : List Action) → StopsOnly RunNext (runs_first old now session actions)
  first_only [] = by_answer RunNext _ (λ refusal e. cc)
  first_only (action ∷ others) = run_only (writes_of action) others (write_refusal old now session (writes_of action))

  -- an event of a session that is there
  abbrev Stays : Event → Type 0
  Stays event = wants_presence event ≡ true → is_leaving old session ≡ false

  if_here : (event : Event) (other : Outcome) → wants_session event ≡ true → is_leaving old session ≡ false → (is_present old session ≡ true → StopsOnly event other) → StopsOnly event (cond shut (refused old NoSession) other)
  if_here event other wants stays f = if_open event other wants (λ e. f (is_here old session e stays))

  unbarred_only : (event : Event) → Stays event → StopsOnly event (unbarred old now session event)
  unbarred_only Open stays =
      either Open (is_open old session) _ _ (λ e. by_stop Open SessionOpen (refl, e))
      (λ e. either Open (nat_le MAX_SESSIONS (map_of.len old.sessions)) _ _ (λ f. by_stop Open TooManySessions (refl, e, leb-true MAX_SESSIONS (map_of.len old.sessions) f))
      (λ f. by_answer Open _ (λ refusal g. cc)))
  unbarred_only Close stays = if_open Close _ refl (λ e. by_answer Close _ (λ refusal g. cc))
  unbarred_only (SignIn who) stays = if_open (SignIn who) _ refl (λ e. by_answer (SignIn who) _ (λ refusal g. cc))
  unbarred_only SignOut stays = if_open SignOut _ refl (λ e. by_answer SignOut _ (λ refusal g. cc))
  unbarred_only (Get path query) stays =
      if_open (Get path query) _ refl
      (λ e. by_rules (Get path query) (read_refusal old now session path query) _ (read_late old now session path query) (by_answer (Get path query) _ (λ refusal g. cc)))
  unbarred_only (Set write) stays = if_open (Set write) _ refl (λ e. makes_only (Set write) (write ∷ []))
  unbarred_only (Remove path) stays = if_open (Remove path) _ refl (λ e. makes_only (Remove path) _)
  unbarred_only (Update writes) stays =
      let event = Update writes in
      if_here event _ refl (stays refl)
      (λ e. either event (length writes == 0) _ _ (λ f. by_stop event EmptyUpdate (inl (ap Update (no_writes writes f)), e))
      (λ f. either event (overlaps writes) _ _ (λ g. by_stop event Overlap (writes, inl refl, e, g))
      (λ g. makes_only event writes)))
  unbarred_only (Listen id path query) stays =
      let event = Listen id path query in
      if_here event _ refl (stays refl)
      (λ e. either event (has_id id (listeners_of old session)) _ _ (λ f. by_stop event DuplicateId (id, path, query, refl, e, f))
      (λ f. either event (nat_le MAX_LISTENERS (length (listeners_of old session))) _ _ (λ g. by_stop event TooManyListeners (id, path, query, refl, e, f, leb-true MAX_LISTENERS (length (listeners_of old session)) g))
      (λ g. by_rules event (read_refusal old now session path query) _ (read_late old now session path query) (by_answer event _ (λ refusal i. cc)))))
  unbarred_only (Unlisten id) stays =
      let event = Unlisten id in
      if_here event _ refl (stays refl)
      (λ e. either event (not (has_id id (listeners_of old session))) _ _ (λ f. by_stop event NoListener (id, refl, e, not_true (has_id id (listeners_of old session)) f))
      (λ f. by_answer event _ (λ refusal g. cc)))
  unbarred_only Poll stays = if_open Poll _ refl (λ e. by_answer Poll _ (λ refusal g. cc))
  unbarred_only Tick stays = by_answer Tick _ (λ refusal g. cc)
  unbarred_only (Deploy rules) stays =
      let event = Deploy rules in
      if_here event _ refl (stays refl)
      (λ e. either event (not (is_admin (identity_of old session))) _ _ (λ f. by_stop event NotAdmin (rules, refl, e, not_true (is_admin (identity_of old session)) f))
      (λ f. by_answer event _ (λ refusal g. cc)))
  unbarred_only (OnSet write) stays = if_here (OnSet write) _ refl (stays refl) (λ e. keeps_only (OnSet write) (write ∷ []) refl e (λ f. cc) refl)
  unbarred_only (OnRemove path) stays = if_here (OnRemove path) _ refl (stays refl) (λ e. keeps_only (OnRemove path) (removal path ∷ []) refl e (λ f. cc) refl)
  unbarred_only (OnUpdate writes) stays =
      let event = OnUpdate writes in
      if_here event _ refl (stays refl)
      (λ e. either event (length writes == 0) _ _ (λ f. by_stop event EmptyUpdate (inr (ap OnUpdate (no_writes writes f)), e))
      (λ f. either event (overlaps writes) _ _ (λ g. by_stop event Overlap (writes, inr refl, e, g))
      (λ g. keeps_only event writes refl e (some_writes writes f) g)))
  unbarred_only (OnCancel path) stays = if_open (OnCancel path) _ refl (λ e. by_answer (OnCancel path) _ (λ refusal g. cc))
  unbarred_only Leave stays = if_open Leave _ refl (λ e. by_answer Leave _ (λ refusal g. cc))
  unbarred_only RunNext stays =
      if_open RunNext _ refl
      (λ e. either RunNext (not (is_leaving old session)) _ _ (λ f. by_stop RunNext NotLeaving (refl, e, not_true (is_leaving old session) f))
      (λ f. first_only (actions_of old session)))

  -- where the bar is passed, the session stays, if its presence is wanted
  stays_past : (wants leaves : Bool) → (wants && leaves) ≡ false → wants ≡ true → leaves ≡ false
  stays_past true leaves e f = e
  stays_past false leaves e f = absurd (false≢true f)

  -- what the bar means
  barred_so : (event : Event) → barred event ≡ true → IsStopped old session event Leaving
  barred_so event e =
      let leaves : is_leaving old session ≡ true = second_so (wants_presence event) (is_leaving old session) e in
      (first_so (wants_presence event) (is_leaving old session) e, leaving_is_open old session leaves, leaves)

  pub stops_only : (event : Event) → StopsOnly event (outcome old now session event)
  stops_only event =
      either event (barred event) _ _ (λ e. by_stop event Leaving (barred_so event e))
      (λ e. unbarred_only event (stays_past (wants_presence event) (is_leaving old session) e))

  pub stopped_rightly : (event : Event) → IsStoppedRightly old session event (outcome old now session event).reply
  stopped_rightly event = record { stopped = is_stopped event; stops = stops_only event }

  -- ---- what no rule can refuse

  abbrev IsRight : Event → State → Outcome → Type 0
  IsRight event left o = IsDoneRightly old session event left o.reply o.after

  abbrev Stops : Event → Type 0
  Stops event = (refusal : Refusal) × IsStopped old session event refusal

  -- it is stopped, or done
  abbrev OrDone : Event → State → Outcome → Type 0
  OrDone event left o = Stops event ⊎ ((o.reply ≡ owed old session event) × (o.after ≡ left))

  choose : (event : Event) (left : State) (b : Bool) (o other : Outcome) → (b ≡ true → Stops event) → (b ≡ false → OrDone event left other) → OrDone event left (cond b o other)
  choose event left true o other f g = inl (f refl)
  choose event left false o other f g = g refl

  open_or : (event : Event) (left : State) (other : Outcome) → wants_session event ≡ true → (is_open old session ≡ true → OrDone event left other) → OrDone event left (cond shut (refused old NoSession) other)
  open_or event left other wants f = choose event left shut _ _ (λ e. (NoSession, (wants, not_true (is_open old session) e))) (λ e. f (not_false (is_open old session) e))

  unbarred_or : (event : Event) (left : State) → Stays event → Leaves old now session event left → OrDone event left (unbarred old now session event)
  unbarred_or Open left stays h =
      choose Open left (is_open old session) _ _ (λ e. (SessionOpen, (refl, e)))
      (λ e. choose Open left (nat_le MAX_SESSIONS (map_of.len old.sessions)) _ _ (λ f. (TooManySessions, (refl, e, leb-true MAX_SESSIONS (map_of.len old.sessions) f)))
      (λ f. inr (refl, sym h)))
  unbarred_or Close left stays h = open_or Close left _ refl (λ e. inr (refl, sym h))
  unbarred_or (SignIn who) left stays h = open_or (SignIn who) left _ refl (λ e. inr (refl, sym h))
  unbarred_or SignOut left stays h = open_or SignOut left _ refl (λ e. inr (refl, sym h))
  unbarred_or (Get path query) left stays h = absurd h
  unbarred_or (Set write) left stays h = absurd h
  unbarred_or (Remove path) left stays h = absurd h
  unbarred_or (Update writes) left stays h = absurd h
  unbarred_or (Listen id path query) left stays h = absurd h
  unbarred_or (Unlisten id) left stays h =
      open_or (Unlisten id) left _ refl
      (λ e. choose (Unlisten id) left (not (has_id id (listeners_of old session))) _ _ (λ f. (NoListener, (id, refl, is_here old session e (stays refl), not_true (has_id id (listeners_of old session)) f)))
      (λ f. inr (refl, sym h)))
  unbarred_or Poll left stays h = absurd h
  unbarred_or Tick left stays h = inr (refl, sym h)
  unbarred_or (Deploy rules) left stays h = absurd h
  unbarred_or (OnSet write) left stays h = absurd h
  unbarred_or (OnRemove path) left stays h = absurd h
  unbarred_or (OnUpdate writes) left stays h = absurd h
  unbarred_or (OnCancel path) left stays h = open_or (OnCancel path) left _ refl (λ e. inr (refl, sym h))
  unbarred_or Leave left stays h = open_or Leave left _ refl (λ e. inr (refl, sym h))
  unbarred_or RunNext left stays h = absurd h

  stopped_or_done : (event : Event) (left : State) → Leaves old now session event left → OrDone event left (outcome old now session event)
  stopped_or_done event left h =
      choose event left (barred event) _ _ (λ e. (Leaving, barred_so event e))
      (λ e. unbarred_or event left (stays_past (wants_presence event) (is_leaving old session) e) h)

  -- what is done is not stopped
  not_stopped : (event : Event) → reply_to event ≡ owed old session event → (refusal : Refusal) → ¬ (IsStopped old session event refusal)
  not_stopped event e refusal h = owes_no_refusal old session event refusal (sym e ∙ is_stopped event refusal h)

  pub done_rightly : (event : Event) (left : State) → Leaves old now session event left → IsRight event left (outcome old now session event)
  done_rightly event left leaves = by_case (stopped_or_done event left leaves)
    where
      by_case : OrDone event left (outcome old now session event) → IsRight event left (outcome old now session event)
      by_case (inl h) = record {
        does = λ _ free. absurd (free h.0 h.1);
        done = λ e. absurd (not_stopped event e h.0 h.1);
      }
      by_case (inr h) = record {
        does = λ _ _. h;
        done = λ e. (not_stopped event e, h.1);
      }

-- ---- for want of memory

module _ (old : State) (session : ℕ) where
  closed_takes_none : (event : Event) → wants_session event ≡ true → is_open old session ≡ false → takes_none old session event ≡ true
  closed_takes_none Open wants e = absurd (false≢true wants)
  closed_takes_none Close wants e = refl
  closed_takes_none (SignIn who) wants e = ap not e
  closed_takes_none SignOut wants e = ap not e
  closed_takes_none (Get path query) wants e = ap not e
  closed_takes_none (Set write) wants e = ap not e
  closed_takes_none (Remove path) wants e = ap not e
  closed_takes_none (Update writes) wants e = ap (λ (b : Bool). not b || length writes == 0 || overlaps writes) e
  closed_takes_none (Listen id path query) wants e = ap (λ (b : Bool). not b || has_id id (listeners_of old session) || nat_le MAX_LISTENERS (length (listeners_of old session))) e
  closed_takes_none (Unlisten id) wants e = refl
  closed_takes_none Poll wants e = ap not e
  closed_takes_none Tick wants e = absurd (false≢true wants)
  closed_takes_none (Deploy rules) wants e = ap (λ (b : Bool). not b || not (is_admin (identity_of old session))) e
  closed_takes_none (OnSet write) wants e = ap (λ (b : Bool). not b || nat_le MAX_ACTIONS (length (actions_of old session))) e
  closed_takes_none (OnRemove path) wants e = ap (λ (b : Bool). not b || nat_le MAX_ACTIONS (length (actions_of old session))) e
  closed_takes_none (OnUpdate writes) wants e = ap (λ (b : Bool). not b || length writes == 0 || overlaps writes || nat_le MAX_ACTIONS (length (actions_of old session))) e
  closed_takes_none (OnCancel path) wants e = refl
  closed_takes_none Leave wants e = refl
  closed_takes_none RunNext wants e = ap (λ (b : Bool). not b || not (is_leaving old session)) e

  last_of_two : (a b : Bool) → b ≡ true → (a || b) ≡ true
  last_of_two a b e = ap (λ (c : Bool). a || c) e ∙ or_true a

  middle_of_three : (a b c : Bool) → b ≡ true → (a || b || c) ≡ true
  middle_of_three a b c e = ap (λ (d : Bool). d || c) (last_of_two a b e)

  abbrev none_for : Event → Bool
  none_for event = takes_no_memory old session event

  -- an event that takes none where the session is not leaving
  takes_none_so : (event one : Event) → event ≡ one → takes_none old session one ≡ true → none_for event ≡ true
  takes_none_so event one is h = ap none_for is ∙ last_of_two (wants_presence one && is_leaving old session) (takes_none old session one) h

  empty_takes_none : (event : Event) → (event ≡ Update []) ⊎ (event ≡ OnUpdate []) → none_for event ≡ true
  empty_takes_none event (inl e) = takes_none_so event (Update []) e (middle_of_three (not (is_open old session)) true (overlaps {Y = Draft} []) refl)
  empty_takes_none event (inr e) = takes_none_so event (OnUpdate []) e (ap (λ (b : Bool). b || nat_le MAX_ACTIONS (length (actions_of old session))) (middle_of_three (not (is_open old session)) true (overlaps {Y = Draft} []) refl))

  overlap_takes_none : (event : Event) (writes : List Write) → (event ≡ Update writes) ⊎ (event ≡ OnUpdate writes) → overlaps writes ≡ true → none_for event ≡ true
  overlap_takes_none event writes (inl e) f = takes_none_so event (Update writes) e (last_of_two (not (is_open old session) || length writes == 0) (overlaps writes) f)
  overlap_takes_none event writes (inr e) f = takes_none_so event (OnUpdate writes) e (middle_of_three (not (is_open old session) || length writes == 0) (overlaps writes) (nat_le MAX_ACTIONS (length (actions_of old session))) f)

  full_takes_none : (event : Event) (writes : List Write) → KeepsFor event writes → nat_le MAX_ACTIONS (length (actions_of old session)) ≡ true → takes_none old session event ≡ true
  full_takes_none Open writes kept all = absurd kept
  full_takes_none Close writes kept all = absurd kept
  full_takes_none (SignIn who) writes kept all = absurd kept
  full_takes_none SignOut writes kept all = absurd kept
  full_takes_none (Get path query) writes kept all = absurd kept
  full_takes_none (Set write) writes kept all = absurd kept
  full_takes_none (Remove path) writes kept all = absurd kept
  full_takes_none (Update asked) writes kept all = absurd kept
  full_takes_none (Listen id path query) writes kept all = absurd kept
  full_takes_none (Unlisten id) writes kept all = absurd kept
  full_takes_none Poll writes kept all = absurd kept
  full_takes_none Tick writes kept all = absurd kept
  full_takes_none (Deploy rules) writes kept all = absurd kept
  full_takes_none (OnSet write) writes kept all = last_of_two (not (is_open old session)) (nat_le MAX_ACTIONS (length (actions_of old session))) all
  full_takes_none (OnRemove path) writes kept all = last_of_two (not (is_open old session)) (nat_le MAX_ACTIONS (length (actions_of old session))) all
  full_takes_none (OnUpdate asked) writes kept all = last_of_two (not (is_open old session) || length asked == 0 || overlaps asked) (nat_le MAX_ACTIONS (length (actions_of old session))) all
  full_takes_none (OnCancel path) writes kept all = absurd kept
  full_takes_none Leave writes kept all = absurd kept
  full_takes_none RunNext writes kept all = absurd kept

  -- what is stopped takes no memory
  stopped_takes_none : (event : Event) (refusal : Refusal) → IsStopped old session event refusal → none_for event ≡ true
  stopped_takes_none event SessionOpen h = takes_none_so event Open h.0 (ap (λ (b : Bool). b || nat_le MAX_SESSIONS (map_of.len old.sessions)) h.1)
  stopped_takes_none event TooManySessions h = takes_none_so event Open h.0 (last_of_two (is_open old session) (nat_le MAX_SESSIONS (map_of.len old.sessions)) (within MAX_SESSIONS (map_of.len old.sessions) h.2))
  stopped_takes_none event NoSession h = takes_none_so event event refl (closed_takes_none event h.0 h.1)
  stopped_takes_none event NotAdmin h = takes_none_so event (Deploy h.0) h.1 (last_of_two (not (is_open old session)) (not (is_admin (identity_of old session))) (ap not h.3))
  stopped_takes_none event EmptyUpdate h = empty_takes_none event h.0
  stopped_takes_none event Overlap h = overlap_takes_none event h.0 h.1 h.3
  stopped_takes_none event DuplicateId h = takes_none_so event (Listen h.0 h.1 h.2) h.3 (middle_of_three (not (is_open old session)) (has_id h.0 (listeners_of old session)) (nat_le MAX_LISTENERS (length (listeners_of old session))) h.5)
  stopped_takes_none event TooManyListeners h = takes_none_so event (Listen h.0 h.1 h.2) h.3 (last_of_two (not (is_open old session) || has_id h.0 (listeners_of old session)) (nat_le MAX_LISTENERS (length (listeners_of old session))) (within MAX_LISTENERS (length (listeners_of old session)) h.6))
  stopped_takes_none event NoListener h = takes_none_so event (Unlisten h.0) h.1 refl
  stopped_takes_none event Leaving h = ap (λ (b : Bool). b || takes_none old session event) (λ i. h.0 i && h.2 i)
  stopped_takes_none event TooManyActions h = takes_none_so event event refl (full_takes_none event h.0 h.1 (within MAX_ACTIONS (length (actions_of old session)) h.5))
  stopped_takes_none event NotLeaving h = takes_none_so event RunNext h.0 (last_of_two (not (is_open old session)) (not (is_leaving old session)) (ap not h.2))
  stopped_takes_none event (ReadDenied named) h = absurd h
  stopped_takes_none event (WriteDenied at named) h = absurd h
  stopped_takes_none event (ValidateDenied at pattern why) h = absurd h
  stopped_takes_none event TreeFull h = absurd h
  stopped_takes_none event NoMemory h = absurd h
  stopped_takes_none event Spent h = absurd h

  pub stop_for_memory : (event : Event) → none_for event ≡ false → IsStoppedRightly old session event (Refused NoMemory)
  stop_for_memory event wants = record {
    stopped = λ refusal h. absurd (false≢true (sym wants ∙ stopped_takes_none event refusal h));
    stops = λ refusal early e. absurd (false≢true (ap is_early (same_refusal NoMemory refusal e) ∙ early));
  }

  pub done_for_memory : (event : Event) (left : State) → IsDoneRightly old session event left (Refused NoMemory) old
  done_for_memory event left = record {
    does = λ n _. absurd (n refl);
    done = λ e. absurd (owes_no_refusal old session event NoMemory (sym e));
  }
