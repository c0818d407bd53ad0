-- What an event that may be done comes to, as it was decided. No public clause stands on these words.
use Rattle.std.specs.Prelude.{◌≡◌, ◌≢◌, ◌⊎◌, ◌≤◌, ℕ, List, ◌∷◌, [], drop, Bool, true, false, not, if◌then◌else◌, Option, None, Some, ⊤}
use Rattle.std.specs.declared.boxed.Box.{Box}
use Rattle.std.specs.Global.{Global}
use Rattle.evaluator.specs.Identity.{Identity}
use Rattle.tree_model.specs.Path.{Path}
use Rattle.tree_model.specs.Tree.{non_null, count}
use Rattle.tree_model.specs.Put.{overlaps}
use Rattle.tree_model.specs.Write.{Write, AreFixed}
use Rattle.listeners.specs.Query.{Query}
use Rattle.listeners.specs.Table.{without_id, taken}
use Rattle.rtdb_model.specs.declared.borrowed.BorrowedRefusal.{BorrowedRefusal}
use Rattle.rtdb_model.specs.declared.borrowed.BorrowedReply.TheVariants as borrowed
use Rattle.rtdb_model.specs.declared.borrowed.BorrowedRan.TheVariants as rans
use Rattle.rtdb_model.specs.declared.event.Event.{Event}
use Rattle.rtdb_model.specs.declared.event.Event.TheVariants.{Open, Close, SignIn, SignOut, Get, Set, Remove, Update, Listen, Unlisten, Poll, Tick, Deploy, OnSet, OnRemove, OnUpdate, OnCancel, Leave, RunNext}
use Rattle.rtdb_model.specs.declared.limits.TheConstants.{MAX_LOCATIONS}
use Rattle.rtdb_model.specs.declared.reply.Refusal.{Refusal}
use Rattle.rtdb_model.specs.declared.reply.Refusal.TheVariants.{NoSession, Leaving, NoMemory}
use Rattle.rtdb_model.specs.declared.reply.Reply.{Reply}
use Rattle.rtdb_model.specs.declared.reply.Reply.TheVariants.{Done, Refused, Value, Ran}
use Rattle.rtdb_model.specs.declared.reply.Ran.TheVariants.{Skipped}
use Rattle.rtdb_model.specs.Borrowed.{reply_of, refusal_of, names_rules}
use Rattle.rtdb_model.specs.State.{State, is_open, is_leaving, identity_of, listeners_of, actions_of}
use Rattle.rtdb_model.specs.Rejudged.{selected_at}
use Rattle.rtdb_model.specs.Step.{Outcome, refused, denial, opened, closed, with_session, listening, removal, tree_with, written_to, with_action, with_actions, without_actions, departing, outcome, takes_no_memory}
use Rattle.rtdb_core.specs.declared.fates.Decision.{Decision}
use Rattle.rtdb_core.specs.declared.plan.Found.{Found}
use Rattle.rtdb_core.specs.Working.Fates.{settled, with_settled, with_tree, with_rules, read_refusal_for, verdict_for, write_refusal_for}

-- ---- what may be done

-- the writes of an action that is run, if one is, in a growth of their own
abbrev pub RunWrites : Type 0
RunWrites = Option (Box (List Write) Global)

-- the state once these writes are made, if there are any, and what was decided of listeners; no moment stands in them, so that they are the same at each
abbrev pub made_by : State → List Decision → RunWrites → State
made_by old ds None = old
made_by old ds (Some writes) = with_settled (with_tree old 0 writes.value) ds

-- the state once the event is done, and what was decided of listeners, and where an action is run its writes; no moment stands in what is written
abbrev pub committed : State → ℕ → Event → List Decision → RunWrites → State
committed old session Open ds run = opened old session
committed old session Close ds run = closed old session
committed old session (SignIn who) ds run = with_session old session (Some who) (settled 0 ds (listeners_of old session))
committed old session SignOut ds run = with_session old session None (settled 0 ds (listeners_of old session))
committed old session (Get path query) ds run = old
committed old session (Set write) ds run = with_settled (with_tree old 0 (write ∷ [])) ds
committed old session (Remove path) ds run = with_settled (with_tree old 0 (removal path ∷ [])) ds
committed old session (Update writes) ds run = with_settled (with_tree old 0 writes) ds
committed old session (Listen id path query) ds run = listening old session id path query
committed old session (Unlisten id) ds run = with_session old session (identity_of old session) (without_id id (listeners_of old session))
committed old session Poll ds run = with_session old session (identity_of old session) (taken (settled 0 ds (listeners_of old session)))
committed old session Tick ds run = with_settled old ds
committed old session (Deploy rules) ds run = with_settled (with_rules old rules) ds
committed old session (OnSet write) ds run = with_action old session (write ∷ [])
committed old session (OnRemove path) ds run = with_action old session (removal path ∷ [])
committed old session (OnUpdate writes) ds run = with_action old session writes
committed old session (OnCancel path) ds run = without_actions old session path
committed old session Leave ds run = departing old session
committed old session RunNext ds run = with_actions (made_by old ds run) session (drop 1 (actions_of old session))

-- the session is open, the writes don't overlap, no moment stands in them, and the tree has room for them
pub record CanBeMade (old : State) (session : ℕ) (writes : List Write) : Type 0 where
  pub opened : is_open old session ≡ true
  pub apart : overlaps writes ≡ false
  pub fixed : AreFixed writes
  pub room : count (tree_with old 0 writes) ≤ MAX_LOCATIONS

-- where an action is run, its writes can be made
abbrev pub MayBeMade : State → ℕ → RunWrites → Type 0
MayBeMade old session None = ⊤
MayBeMade old session (Some writes) = CanBeMade old session writes.value

-- the session is open, there is a write, none overlaps another, and keeping them takes memory
pub record MayBeKept (old : State) (session : ℕ) (writes : List Write) : Type 0 where
  pub opened : is_open old session ≡ true
  pub some : writes ≢ []
  pub apart : overlaps writes ≡ false
  pub takes : takes_no_memory old session (OnUpdate writes) ≡ false

-- what doing the event stands on, where it may be done
abbrev pub MayBeDone : State → ℕ → Event → RunWrites → Type 0
MayBeDone old session Open run = takes_no_memory old session Open ≡ false
MayBeDone old session Close run = ⊤
MayBeDone old session (SignIn who) run = is_open old session ≡ true
MayBeDone old session SignOut run = is_open old session ≡ true
MayBeDone old session (Get path query) run = ⊤
MayBeDone old session (Set write) run = CanBeMade old session (write ∷ []) × (takes_no_memory old session (Set write) ≡ false)
MayBeDone old session (Remove path) run = CanBeMade old session (removal path ∷ []) × (takes_no_memory old session (Remove path) ≡ false)
MayBeDone old session (Update writes) run = CanBeMade old session writes × (takes_no_memory old session (Update writes) ≡ false)
MayBeDone old session (Listen id path query) run = (is_open old session ≡ true) × (takes_no_memory old session (Listen id path query) ≡ false)
MayBeDone old session (Unlisten id) run = is_open old session ≡ true
MayBeDone old session Poll run = is_open old session ≡ true
MayBeDone old session Tick run = ⊤
MayBeDone old session (Deploy rules) run = ⊤
MayBeDone old session (OnSet write) run = (is_open old session ≡ true) × (takes_no_memory old session (OnSet write) ≡ false)
MayBeDone old session (OnRemove path) run = (is_open old session ≡ true) × (takes_no_memory old session (OnRemove path) ≡ false)
MayBeDone old session (OnUpdate writes) run = MayBeKept old session writes
MayBeDone old session (OnCancel path) run = is_open old session ≡ true
MayBeDone old session Leave run = is_open old session ≡ true
MayBeDone old session RunNext run = (is_open old session ≡ true) × (takes_no_memory old session RunNext ≡ false) × MayBeMade old session run

-- what was decided leads to the state that the event leaves
pub record IsPlanned (old : State) (now session : ℕ) (event : Event) (ds : List Decision) (run : RunWrites) : Type 0 where
  pub after : (outcome old now session event).after ≡ committed old session event ds run
  pub may : MayBeDone old session event run

-- ---- what an event comes to

-- it is answered so, and leads to this state
abbrev pub Comes : Outcome → Found → State → Type 0
Comes it found after = it ≡ record { reply = reply_of found.reply; after = after }

-- it is refused so, where nothing but memory is wanting for it only if it takes some
abbrev pub Refuses : State → Outcome → Bool → Refusal → Type 0
Refuses old it takes_none refusal =
    (it ≡ record { reply = Refused refusal; after = old })
    ⊎ ((Refused refusal ≡ Refused NoMemory) × (old ≡ old) × (takes_none ≡ false))

-- the event comes to this
pub record IsFound (old : State) (now session : ℕ) (event : Event) (found : Found) : Type 0 where
  pub comes : Comes (outcome old now session event) found (committed old session event found.decisions.made.items found.run)
  pub may : MayBeDone old session event found.run

-- ---- who asks

-- whoever is leaving is refused, whatever is asked
abbrev pub barred : State → ℕ → Outcome → Outcome
barred old session it = if is_leaving old session then refused old Leaving else it

-- where the session is open this is the state after it, and else it is refused
abbrev pub quiet : State → ℕ → State → Outcome
quiet old session after =
    if not (is_open old session) then refused old NoSession
    else record { reply = Done; after = after }

-- the session is refused so, whatever it would be answered: it is not open, or it is leaving
abbrev pub IsBarred : State → ℕ → Refusal → Type 0
IsBarred old session refusal = (it : Outcome) → barred old session (if not (is_open old session) then refused old NoSession else it) ≡ refused old refusal

-- ---- reads and writes, for whoever is signed in

-- a read is granted, and answered by what the query selects of what stands at the path
pub record IsGranted (old : State) (now : ℕ) (who : Option Identity) (path : Path) (query : Option Query) (found : Found) : Type 0 where
  pub granted : read_refusal_for old now who path query ≡ None
  pub value : reply_of found.reply ≡ Value (non_null (selected_at old.tree path query))

-- writes are granted, and this was decided of all listeners
pub record AreGranted (old : State) (now : ℕ) (who : Option Identity) (writes : List Write) (found : Found) : Type 0 where
  pub granted : write_refusal_for old now who writes ≡ None
  pub done : found.reply ≡ borrowed.Done
  pub decided : with_settled (with_tree old now writes) found.decisions.made.items ≡ written_to old now writes

-- the rules grant writes that are made later
pub record AreGrantedNow (old : State) (now : ℕ) (who : Option Identity) (writes : List Write) (found : Found) : Type 0 where
  pub granted : denial (verdict_for old now who writes) ≡ None
  pub done : found.reply ≡ borrowed.Done

-- writes of an action are refused now
pub record AreSkipped (old : State) (now : ℕ) (who : Option Identity) (writes : List Write) (found : Found) : Type 0 where
  pub refusal : BorrowedRefusal
  pub owed : write_refusal_for old now who writes ≡ Some (refusal_of refusal)
  pub skipped : reply_of found.reply ≡ Ran (Skipped (refusal_of refusal))
  pub none : found.run ≡ None

-- writes of an action are granted now, these are the same with the moment filled in, and this was decided of all listeners
pub record AreApplied (old : State) (now : ℕ) (who : Option Identity) (writes : List Write) (found : Found) : Type 0 where
  pub made : Box (List Write) Global
  pub granted : write_refusal_for old now who writes ≡ None
  pub applied : found.reply ≡ borrowed.Ran rans.Applied
  pub run : found.run ≡ Some made
  pub apart : overlaps made.value ≡ false
  pub fixed : AreFixed made.value
  pub room : count (tree_with old 0 made.value) ≤ MAX_LOCATIONS
  pub decided : with_settled (with_tree old 0 made.value) found.decisions.made.items ≡ written_to old now writes

-- what the run of an action comes to that these are the writes of
abbrev pub IsRunSo : State → ℕ → Option Identity → List Write → Found → Type 0
IsRunSo old now who writes found = AreSkipped old now who writes found ⊎ AreApplied old now who writes found

-- it is the refusal that is owed, or want of memory
abbrev pub IsRefused : Option Refusal → BorrowedRefusal → Type 0
IsRefused owed refusal = (owed ≡ Some (refusal_of refusal)) ⊎ (refusal_of refusal ≡ NoMemory)

-- ---- replies of their own

-- the refusal as a reply, or want of memory for the names that it has
abbrev pub IsRefusedBy : Refusal → Reply → Type 0
IsRefusedBy refusal reply = (reply ≡ Refused refusal) ⊎ ((reply ≡ Refused NoMemory) × (names_rules refusal ≡ true))
