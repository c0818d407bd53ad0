-- What is promised of each call of a run.
use Rattle.std.specs.Prelude.{◌≡◌, ◌≢◌, ℕ, ◌≤◌, ◌<◌, ◌⊎◌, List, [], ◌∷◌, ◌++◌, length, map, Option, Some, None, Bool, true, false, ◌==◌, ◌&&◌, if◌then◌else◌, ⊤, Contains, AllPairs}
use Rattle.std.specs.FinMap as map_of
use Rattle.tree_model.specs.Path.{Path}
use Rattle.tree_model.specs.PathMap.{sub}
use Rattle.tree_model.specs.Tree.{Tree, non_null, count}
use Rattle.tree_model.specs.Put.{location, overlaps}
use Rattle.tree_model.specs.Write.{Write}
use Rattle.path_capture.specs.Pattern as parts
use Rattle.path_capture.specs.Pattern.{part_of_text}
use Rattle.rules_reader.specs.Part.{Pattern, texts}
use Rattle.rules_reader.specs.declared.kind.Kind.{Kind}
use Rattle.rules_reader.specs.declared.kind.Kind.TheVariants.{Read as read_rules, Write as write_rules}
use Rattle.listeners.specs.declared.limits.TheConstants.{MAX_LISTENERS}
use Rattle.listeners.specs.Query.{Query}
use Rattle.listeners.specs.Selection.{selection}
use Rattle.listeners.specs.Table.{Listener, has_id, without_id, unmarked}
use Rattle.evaluator.specs.Identity.{Identity}
use Rattle.rules_reader.specs.Book.{Book}
use Rattle.rules_reader.specs.Place.{HasOneCapture}
use Rattle.judge.specs.Question.{Question, reading, writing}
use Rattle.judge.specs.Failing.{IsValid, IsFirstFailing}
use Rattle.judge.specs.Judging.{MayRead, MayWriteAll, IsLeastRefused, IsToBeNamed}
use Rattle.judge.specs.Tests.{named_rules}
use Rattle.judge.specs.declared.verdict.Named.{Named}
use Rattle.judge.specs.declared.verdict.Why.{Why}
use Rattle.rtdb_model.specs.declared.limits.TheConstants.{MAX_SESSIONS, MAX_ACTIONS, MAX_LOCATIONS}
use Rattle.rtdb_model.specs.declared.event.Event.{Event}
use Rattle.rtdb_model.specs.declared.event.Event.TheVariants.{Open, Close, SignIn, SignOut, Get, Set, Remove, Update, Listen, Unlisten, Poll, Tick, Deploy, OnSet, OnRemove, OnUpdate, OnCancel, Leave, RunNext}
use Rattle.rtdb_model.specs.declared.news.Notice.{Notice}
use Rattle.rtdb_model.specs.declared.reply.Refusal.{Refusal}
use Rattle.rtdb_model.specs.declared.reply.Refusal.TheVariants.{SessionOpen, TooManySessions, NoSession, NotAdmin, EmptyUpdate, Overlap, DuplicateId, TooManyListeners, NoListener, Leaving, TooManyActions, NotLeaving, ReadDenied, WriteDenied, ValidateDenied, TreeFull, NoMemory, Spent}
use Rattle.rtdb_model.specs.declared.reply.Reply.{Reply}
use Rattle.rtdb_model.specs.declared.reply.Reply.TheVariants.{Done, Value, News, Refused, Ran, Closed}
use Rattle.rtdb_model.specs.declared.reply.Ran.TheVariants.{Empty, Applied, Skipped}
use Rattle.rtdb_model.specs.State.{Action, State, is_open, is_leaving, is_present, identity_of, listeners_of, actions_of, is_admin, scene_at}
use Rattle.rtdb_model.specs.News.{gone, selected_now}
use Rattle.rtdb_model.specs.Rejudged.{asked_for, all_rejudged}
use Rattle.rtdb_model.specs.Step.{Step, Call, Run, takes_no_memory, wants_presence, opened, closed, signed, with_session, removal, tree_with, written_to, listening, deployed, with_actions, writes_of, with_action, without_actions, departing}

-- ---- what is refused before any rule is asked

-- the session of the event has to be open: of each but an opening and a tick. (This project's profile.)
abbrev pub wants_session : Event → Bool
wants_session Open = false
wants_session Close = true
wants_session (SignIn who) = true
wants_session SignOut = true
wants_session (Get path query) = true
wants_session (Set write) = true
wants_session (Remove path) = true
wants_session (Update writes) = true
wants_session (Listen id path query) = true
wants_session (Unlisten id) = true
wants_session Poll = true
wants_session Tick = false
wants_session (Deploy rules) = true
wants_session (OnSet write) = true
wants_session (OnRemove path) = true
wants_session (OnUpdate writes) = true
wants_session (OnCancel path) = true
wants_session Leave = true
wants_session RunNext = true

-- the refusal comes before any rule is asked, and takes no memory. (This project's profile.)
abbrev pub is_early : Refusal → Bool
is_early SessionOpen = true
is_early TooManySessions = true
is_early NoSession = true
is_early NotAdmin = true
is_early EmptyUpdate = true
is_early Overlap = true
is_early DuplicateId = true
is_early TooManyListeners = true
is_early NoListener = true
is_early Leaving = true
is_early TooManyActions = true
is_early NotLeaving = true
is_early (ReadDenied named) = false
is_early (WriteDenied at named) = false
is_early (ValidateDenied at pattern why) = false
is_early TreeFull = false
is_early NoMemory = false
is_early Spent = false

-- the event establishes these writes, which are to be made together when the session goes
abbrev pub KeepsFor : Event → List Write → Type 0
KeepsFor Open writes = ⊥
KeepsFor Close writes = ⊥
KeepsFor (SignIn who) writes = ⊥
KeepsFor SignOut writes = ⊥
KeepsFor (Get path query) writes = ⊥
KeepsFor (Set write) writes = ⊥
KeepsFor (Remove path) writes = ⊥
KeepsFor (Update all) writes = ⊥
KeepsFor (Listen id path query) writes = ⊥
KeepsFor (Unlisten id) writes = ⊥
KeepsFor Poll writes = ⊥
KeepsFor Tick writes = ⊥
KeepsFor (Deploy rules) writes = ⊥
KeepsFor (OnSet write) writes = writes ≡ write ∷ []
KeepsFor (OnRemove path) writes = writes ≡ removal path ∷ []
KeepsFor (OnUpdate all) writes = writes ≡ all
KeepsFor (OnCancel path) writes = ⊥
KeepsFor Leave writes = ⊥
KeepsFor RunNext writes = ⊥

-- When each of these refusals comes: a session that is open is opened; one that is not is opened, where as many are open as may be; the session has to be open and is not; it is open and leaving, and asks for anything but its closing and the run of its actions; its actions are run, and it is not leaving; and on an open session that is not leaving: rules are deployed, and no administrator is signed in; an update has no write; two writes of an update overlap; writes are established, some and none overlapping, and the session has as many actions as it may; a listen is under an id that the session listens under already; it is under another, and the session has as many listeners as it may; an unlisten is under an id that it does not listen under. (This project's profile.)
abbrev pub IsStopped : State → ℕ → Event → Refusal → Type 0
IsStopped before session event SessionOpen = (event ≡ Open) × (is_open before session ≡ true)
IsStopped before session event TooManySessions = (event ≡ Open) × (is_open before session ≡ false) × (MAX_SESSIONS ≤ map_of.len before.sessions)
IsStopped before session event NoSession = (wants_session event ≡ true) × (is_open before session ≡ false)
IsStopped before session event NotAdmin = (rules : Book) × (event ≡ Deploy rules) × (is_present before session ≡ true) × (is_admin (identity_of before session) ≡ false)
IsStopped before session event EmptyUpdate = ((event ≡ Update []) ⊎ (event ≡ OnUpdate [])) × (is_present before session ≡ true)
IsStopped before session event Overlap = (writes : List Write) × ((event ≡ Update writes) ⊎ (event ≡ OnUpdate writes)) × (is_present before session ≡ true) × (overlaps writes ≡ true)
IsStopped before session event DuplicateId = (id : List ℕ) × (path : Path) × (query : Option Query) × (event ≡ Listen id path query) × (is_present before session ≡ true) × (has_id id (listeners_of before session) ≡ true)
IsStopped before session event TooManyListeners = (id : List ℕ) × (path : Path) × (query : Option Query) × (event ≡ Listen id path query) × (is_present before session ≡ true) × (has_id id (listeners_of before session) ≡ false) × (MAX_LISTENERS ≤ length (listeners_of before session))
IsStopped before session event NoListener = (id : List ℕ) × (event ≡ Unlisten id) × (is_present before session ≡ true) × (has_id id (listeners_of before session) ≡ false)
IsStopped before session event Leaving = (wants_presence event ≡ true) × (is_open before session ≡ true) × (is_leaving before session ≡ true)
IsStopped before session event TooManyActions = (writes : List Write) × KeepsFor event writes × (is_present before session ≡ true) × (writes ≢ []) × (overlaps writes ≡ false) × (MAX_ACTIONS ≤ length (actions_of before session))
IsStopped before session event NotLeaving = (event ≡ RunNext) × (is_open before session ≡ true) × (is_leaving before session ≡ false)
IsStopped before session event (ReadDenied named) = ⊥
IsStopped before session event (WriteDenied at named) = ⊥
IsStopped before session event (ValidateDenied at pattern why) = ⊥
IsStopped before session event TreeFull = ⊥
IsStopped before session event NoMemory = ⊥
IsStopped before session event Spent = ⊥

-- Each of these refusals comes exactly where it should, and never is want of memory answered in its place. (This project's profile.)
pub record IsStoppedRightly (before : State) (session : ℕ) (event : Event) (reply : Reply) : Type 0 where
  pub stopped : (refusal : Refusal) → IsStopped before session event refusal → reply ≡ Refused refusal
  pub stops : (refusal : Refusal) → is_early refusal ≡ true → reply ≡ Refused refusal → IsStopped before session event refusal

-- ---- what no rule can refuse

-- the state that the event leaves where it is done: its session is open, with nobody signed in; it is gone; this is who is signed in on it, or nobody is, and its listeners are judged again; it listens no longer under the id; all listeners are judged again; the actions that write at the path and below it alone are gone; the session is leaving. Of other events nothing is said here. (This project's profile.)
abbrev pub Leaves : State → ℕ → ℕ → Event → State → Type 0
Leaves before now session Open left = left ≡ opened before session
Leaves before now session Close left = left ≡ closed before session
Leaves before now session (SignIn who) left = left ≡ signed before now session (Some who)
Leaves before now session SignOut left = left ≡ signed before now session None
Leaves before now session (Get path query) left = ⊥
Leaves before now session (Set write) left = ⊥
Leaves before now session (Remove path) left = ⊥
Leaves before now session (Update writes) left = ⊥
Leaves before now session (Listen id path query) left = ⊥
Leaves before now session (Unlisten id) left = left ≡ with_session before session (identity_of before session) (without_id id (listeners_of before session))
Leaves before now session Poll left = ⊥
Leaves before now session Tick left = left ≡ all_rejudged before.tree now before
Leaves before now session (Deploy rules) left = ⊥
Leaves before now session (OnSet write) left = ⊥
Leaves before now session (OnRemove path) left = ⊥
Leaves before now session (OnUpdate writes) left = ⊥
Leaves before now session (OnCancel path) left = left ≡ without_actions before session path
Leaves before now session Leave left = left ≡ departing before session
Leaves before now session RunNext left = ⊥

-- what such an event is answered where it is done: how many actions are dropped by a closing, and nothing else by any other
abbrev pub owed : State → ℕ → Event → Reply
owed before session Close = Closed (length (actions_of before session))
owed before session event = Done

-- An event that leaves this where it is done is done exactly where nothing stops it, but for want of memory. (This project's profile.)
pub record IsDoneRightly (before : State) (session : ℕ) (event : Event) (left : State) (reply : Reply) (after : State) : Type 0 where
  pub does : reply ≢ Refused NoMemory → ((refusal : Refusal) → ¬ (IsStopped before session event refusal)) → (reply ≡ owed before session event) × (after ≡ left)
  pub done : reply ≡ owed before session event → ((refusal : Refusal) → ¬ (IsStopped before session event refusal)) × (after ≡ left)

-- ---- what a denial names

-- it has the shorter pattern of two, and so it stands nearer to the root
abbrev pub IsShorter : Named → Named → Type 0
IsShorter one other = length one.pattern < length other.pattern

-- These are the names that a denial owes at this path: each is of a rule of this kind at the path or at a prefix of it which does not hold there, for this reason; each such rule is named; and the shortest pattern comes first, none as short as another, so that each is named once. (This project's profile.)
pub record AreOwed (q : Question) (kind : Kind) (path : Path) (named : List Named) : Type 0 where
  pub each : (name : Named) → Contains named name → IsToBeNamed q kind path name
  pub all : (name : Named) → IsToBeNamed q kind path name → Contains named name
  pub in_order : AllPairs IsShorter named

-- ---- reads

-- the rules in force grant this session a read of the path, with this query, at this moment, for who is signed in on it: a `.read` holds at it or at a prefix of it. (Guide "Core syntax", `.read` and `.write` rules cascade.)
abbrev pub GrantsRead : State → ℕ → ℕ → Path → Option Query → Type 0
GrantsRead before now session path query = MayRead (scene_at before now session) (asked_for query) path

-- the `.read` rules that stand at the path or at a prefix of it and do not hold there, each with the reason, the shortest pattern first; `AreOwed` says it
abbrev pub named_for_read : State → ℕ → ℕ → Path → Option Query → List Named
named_for_read before now session path query = named_rules (reading (scene_at before now session) (asked_for query)) read_rules path

-- A read of a session that is open and not leaving is answered by what its query selects of what stands there (without a query by all of it) where it is granted, and denied with the names of the `.read` rules that do not hold where it is not, but for want of memory; never the other way; and it changes nothing. (Guide "Core syntax", `.read` and `.write` rules cascade; the names are this project's profile.)
pub record IsReadJudged (before : State) (now session : ℕ) (path : Path) (query : Option Query) (reply : Reply) (after : State) : Type 0 where
  pub grants : reply ≢ Refused NoMemory → is_present before session ≡ true → GrantsRead before now session path query → reply ≡ Value (non_null (selection (sub before.tree path) query))
  pub denies : reply ≢ Refused NoMemory → is_present before session ≡ true → ¬ (GrantsRead before now session path query) → reply ≡ Refused (ReadDenied (named_for_read before now session path query))
  pub granted : (tree : Option Tree) → reply ≡ Value tree → (is_present before session ≡ true) × GrantsRead before now session path query × (tree ≡ non_null (selection (sub before.tree path) query))
  pub denied : (named : List Named) → reply ≡ Refused (ReadDenied named) → (is_present before session ≡ true) × ¬ (GrantsRead before now session path query) × (named ≡ named_for_read before now session path query)
  pub owes : (named : List Named) → reply ≡ Refused (ReadDenied named) → AreOwed (reading (scene_at before now session) (asked_for query)) read_rules path named
  pub stays : after ≡ before

-- ---- listeners

-- the session is open and not leaving, does not listen under the id yet, and may listen to more: no other refusal stops a listen
pub record MayListen (before : State) (session : ℕ) (id : List ℕ) : Type 0 where
  pub present : is_present before session ≡ true
  pub new : has_id id (listeners_of before session) ≡ false
  pub room : length (listeners_of before session) < MAX_LISTENERS

-- A listen that no other refusal stops is judged as a read, and answered as one; where it is granted, the session has one listener more, live and without news, and nothing else changes; but for want of memory, and never the other way. (Guide "Read and Write Data", listeners; guide "Core syntax", `.read` and `.write` rules cascade.)
pub record IsListenJudged (before : State) (now session : ℕ) (id : List ℕ) (path : Path) (query : Option Query) (reply : Reply) (after : State) : Type 0 where
  pub grants : reply ≢ Refused NoMemory → MayListen before session id → GrantsRead before now session path query → (reply ≡ Value (non_null (selection (sub before.tree path) query))) × (after ≡ listening before session id path query)
  pub denies : reply ≢ Refused NoMemory → MayListen before session id → ¬ (GrantsRead before now session path query) → reply ≡ Refused (ReadDenied (named_for_read before now session path query))
  pub granted : (tree : Option Tree) → reply ≡ Value tree → MayListen before session id × GrantsRead before now session path query × (tree ≡ non_null (selection (sub before.tree path) query)) × (after ≡ listening before session id path query)
  pub denied : (named : List Named) → reply ≡ Refused (ReadDenied named) → MayListen before session id × ¬ (GrantsRead before now session path query) × (named ≡ named_for_read before now session path query)
  pub owes : (named : List Named) → reply ≡ Refused (ReadDenied named) → AreOwed (reading (scene_at before now session) (asked_for query)) read_rules path named

-- These are the notices for these listeners, in their order: what it selects now for one that is live, whose read is granted at this moment and for which there is news; that it is gone for one that is not live or not granted; and nothing for any other. (Guide "Read and Write Data", listeners; marks are this project's profile.)
abbrev pub AreTold : State → ℕ → ℕ → List Listener → List Notice → Type 0
AreTold before now session [] notices = notices ≡ []
AreTold before now session (l ∷ ls) notices =
    ((l.live ≡ true) × GrantsRead before now session l.path l.query × (l.marked ≡ true) × (rest : List Notice) × (notices ≡ selected_now l.id (non_null (selection (sub before.tree l.path) l.query)) ∷ rest) × AreTold before now session ls rest)
    ⊎ (((l.live ≡ true) × GrantsRead before now session l.path l.query × (l.marked ≡ false) × AreTold before now session ls notices)
    ⊎ (¬ ((l.live ≡ true) × GrantsRead before now session l.path l.query) × (rest : List Notice) × (notices ≡ gone l.id ∷ rest) × AreTold before now session ls rest))

-- These listeners, in their order, are left of those by an answered poll: each that is live and granted at this moment, with no news for it any more; the others are gone. (Guide "Read and Write Data", listeners that are cancelled; marks are this project's profile.)
abbrev pub AreLeft : State → ℕ → ℕ → List Listener → List Listener → Type 0
AreLeft before now session [] left = left ≡ []
AreLeft before now session (l ∷ ls) left =
    ((l.live ≡ true) × GrantsRead before now session l.path l.query × (rest : List Listener) × (left ≡ unmarked l ∷ rest) × AreLeft before now session ls rest)
    ⊎ (¬ ((l.live ≡ true) × GrantsRead before now session l.path l.query) × AreLeft before now session ls left)

-- A poll of a session that is open and not leaving is answered by the news of its listeners, each judged at this poll, and leaves of them those that are live and granted, with no news for them any more, and all else as it was; but for want of memory. (This project's profile.)
pub record IsPollJudged (before : State) (now session : ℕ) (reply : Reply) (after : State) : Type 0 where
  pub tells : reply ≢ Refused NoMemory → is_present before session ≡ true → (notices : List Notice) × (reply ≡ News notices)
  pub told : (notices : List Notice) → reply ≡ News notices → (is_present before session ≡ true) × AreTold before now session (listeners_of before session) notices
  pub leaves : (notices : List Notice) → reply ≡ News notices → (left : List Listener) × AreLeft before now session (listeners_of before session) left × (after ≡ with_session before session (identity_of before session) left)

-- ---- writes

-- the event asks for these writes, together and at once
abbrev pub AsksFor : Event → List Write → Type 0
AsksFor Open writes = ⊥
AsksFor Close writes = ⊥
AsksFor (SignIn who) writes = ⊥
AsksFor SignOut writes = ⊥
AsksFor (Get path query) writes = ⊥
AsksFor (Set write) writes = writes ≡ write ∷ []
AsksFor (Remove path) writes = writes ≡ removal path ∷ []
AsksFor (Update all) writes = writes ≡ all
AsksFor (Listen id path query) writes = ⊥
AsksFor (Unlisten id) writes = ⊥
AsksFor Poll writes = ⊥
AsksFor Tick writes = ⊥
AsksFor (Deploy rules) writes = ⊥
AsksFor (OnSet write) writes = ⊥
AsksFor (OnRemove path) writes = ⊥
AsksFor (OnUpdate all) writes = ⊥
AsksFor (OnCancel path) writes = ⊥
AsksFor Leave writes = ⊥
AsksFor RunNext writes = ⊥

-- the session is open and not leaving, there is a write, and none overlaps another: no other refusal stops them
pub record AreJudged (before : State) (session : ℕ) (writes : List Write) : Type 0 where
  pub present : is_present before session ≡ true
  pub some : writes ≢ []
  pub apart : overlaps writes ≡ false

-- the rules in force grant this session each of these writes at this moment, for who is signed in on it: at its location or at a prefix of it a `.write` holds, which sees as `newData` the tree that all of them propose together. (Guide "Core syntax", `.read` and `.write` rules cascade.)
abbrev pub GrantsAll : State → ℕ → ℕ → List Write → Type 0
GrantsAll before now session writes = MayWriteAll (scene_at before now session) (tree_with before now writes) (map location writes)

-- the location is the least of those that are not granted, by the list of keys, each by its bytes, a prefix first
abbrev pub IsLeastDenied : State → ℕ → ℕ → List Write → Path → Type 0
IsLeastDenied before now session writes at = IsLeastRefused (scene_at before now session) (tree_with before now writes) (map location writes) at

-- the `.write` rules that stand at the location or at a prefix of it and do not hold there, each with the reason, the shortest pattern first; `AreOwed` says it
abbrev pub named_for_write : State → ℕ → ℕ → List Write → Path → List Named
named_for_write before now session writes at = named_rules (writing (scene_at before now session) (tree_with before now writes)) write_rules at

-- the rules in force validate these writes of this session: each `.validate` holds where it stands at a place that exists in the tree that they propose, at, above or below one of their locations. (Guide "Core syntax", `.validate` rules do not cascade.)
abbrev pub Validates : State → ℕ → ℕ → List Write → Type 0
Validates before now session writes = IsValid (scene_at before now session) (tree_with before now writes) (map location writes)

-- at this place, the first such, the `.validate` of this pattern does not hold, for this reason
abbrev pub FailsFirst : State → ℕ → ℕ → List Write → Path → Pattern → Why → Type 0
FailsFirst before now session writes at pattern why = IsFirstFailing (scene_at before now session) (tree_with before now writes) (map location writes) at pattern why

-- the tree that these writes propose at this moment has no more locations than may be
abbrev pub Fits : State → ℕ → List Write → Type 0
Fits before now writes = count (tree_with before now writes) ≤ MAX_LOCATIONS

-- the tree that these writes propose at this moment has more locations than may be
abbrev pub Overflows : State → ℕ → List Write → Type 0
Overflows before now writes = MAX_LOCATIONS < count (tree_with before now writes)

-- Writes that no other refusal stops are made, all listeners are judged again, and nothing else changes, where all are granted and valid, and the tree has room; they are denied with the least location that is not granted and the names of the `.write` rules that do not hold at it and above it, else with the first failing place, its pattern and the reason, else for the room; but for want of memory, and never the other way. (Guide "Core syntax"; the names, the order and the room are this project's profile.)
pub record IsWriteJudged (before : State) (now session : ℕ) (writes : List Write) (reply : Reply) (after : State) : Type 0 where
  pub makes : reply ≢ Refused NoMemory → AreJudged before session writes → GrantsAll before now session writes → Validates before now session writes → Fits before now writes → (reply ≡ Done) × (after ≡ written_to before now writes)
  pub denies : reply ≢ Refused NoMemory → AreJudged before session writes → (at : Path) → IsLeastDenied before now session writes at → reply ≡ Refused (WriteDenied at (named_for_write before now session writes at))
  pub fails : reply ≢ Refused NoMemory → AreJudged before session writes → GrantsAll before now session writes → (at : Path) (pattern : Pattern) (why : Why) → FailsFirst before now session writes at pattern why → reply ≡ Refused (ValidateDenied at (map part_of_text pattern) why)
  pub overflows : reply ≢ Refused NoMemory → AreJudged before session writes → GrantsAll before now session writes → Validates before now session writes → Overflows before now writes → reply ≡ Refused TreeFull
  pub made : reply ≡ Done → AreJudged before session writes × GrantsAll before now session writes × Validates before now session writes × Fits before now writes × (after ≡ written_to before now writes)
  pub denied : (at : Path) (named : List Named) → reply ≡ Refused (WriteDenied at named) → AreJudged before session writes × IsLeastDenied before now session writes at × (named ≡ named_for_write before now session writes at)
  pub owes : (at : Path) (named : List Named) → reply ≡ Refused (WriteDenied at named) → AreOwed (writing (scene_at before now session) (tree_with before now writes)) write_rules at named
  pub failed : (at : Path) (pattern : parts.Pattern) (why : Why) → reply ≡ Refused (ValidateDenied at pattern why) → AreJudged before session writes × GrantsAll before now session writes × FailsFirst before now session writes at (texts pattern) why
  pub overflowed : reply ≡ Refused TreeFull → AreJudged before session writes × GrantsAll before now session writes × Validates before now session writes × Overflows before now writes

-- ---- what is written when a session goes

-- the session is open and not leaving, there is a write, none overlaps another, and the session may have more actions: no other refusal stops it
pub record MayKeep (before : State) (session : ℕ) (writes : List Write) : Type 0 where
  pub present : is_present before session ≡ true
  pub some : writes ≢ []
  pub apart : overlaps writes ≡ false
  pub room : length (actions_of before session) < MAX_ACTIONS

-- Writes that are established, and that no other refusal stops, are judged as if they were made now, but for the room in the tree: where all are granted and valid they are the last action of the session, and nothing else changes; else they are denied as writes are; but for want of memory, and never the other way. (Guide "Enabling Offline Capabilities", how onDisconnect works: security rules are evaluated when it is established, and again when it is run; the limits are this project's profile.)
pub record IsKeptRightly (before : State) (now session : ℕ) (writes : List Write) (reply : Reply) (after : State) : Type 0 where
  pub keeps : reply ≢ Refused NoMemory → MayKeep before session writes → GrantsAll before now session writes → Validates before now session writes → (reply ≡ Done) × (after ≡ with_action before session writes)
  pub denies : reply ≢ Refused NoMemory → MayKeep before session writes → (at : Path) → IsLeastDenied before now session writes at → reply ≡ Refused (WriteDenied at (named_for_write before now session writes at))
  pub fails : reply ≢ Refused NoMemory → MayKeep before session writes → GrantsAll before now session writes → (at : Path) (pattern : Pattern) (why : Why) → FailsFirst before now session writes at pattern why → reply ≡ Refused (ValidateDenied at (map part_of_text pattern) why)
  pub kept : reply ≡ Done → MayKeep before session writes × GrantsAll before now session writes × Validates before now session writes × (after ≡ with_action before session writes)
  pub denied : (at : Path) (named : List Named) → reply ≡ Refused (WriteDenied at named) → MayKeep before session writes × IsLeastDenied before now session writes at × (named ≡ named_for_write before now session writes at)
  pub owes : (at : Path) (named : List Named) → reply ≡ Refused (WriteDenied at named) → AreOwed (writing (scene_at before now session) (tree_with before now writes)) write_rules at named
  pub failed : (at : Path) (pattern : parts.Pattern) (why : Why) → reply ≡ Refused (ValidateDenied at pattern why) → MayKeep before session writes × GrantsAll before now session writes × FailsFirst before now session writes at (texts pattern) why
  pub fits : reply ≢ Refused TreeFull

-- the session is open and leaving: no refusal stops the run of its actions
pub record MayRun (before : State) (session : ℕ) : Type 0 where
  pub opened : is_open before session ≡ true
  pub leaving : is_leaving before session ≡ true

-- why these writes of an action are not made now: the rules deny them, else they fail to validate, else the tree has no room
abbrev pub IsSkipped : State → ℕ → ℕ → List Write → Refusal → Type 0
IsSkipped before now session writes SessionOpen = ⊥
IsSkipped before now session writes TooManySessions = ⊥
IsSkipped before now session writes NoSession = ⊥
IsSkipped before now session writes NotAdmin = ⊥
IsSkipped before now session writes EmptyUpdate = ⊥
IsSkipped before now session writes Overlap = ⊥
IsSkipped before now session writes DuplicateId = ⊥
IsSkipped before now session writes TooManyListeners = ⊥
IsSkipped before now session writes NoListener = ⊥
IsSkipped before now session writes Leaving = ⊥
IsSkipped before now session writes TooManyActions = ⊥
IsSkipped before now session writes NotLeaving = ⊥
IsSkipped before now session writes (ReadDenied named) = ⊥
IsSkipped before now session writes (WriteDenied at named) = IsLeastDenied before now session writes at × (named ≡ named_for_write before now session writes at) × AreOwed (writing (scene_at before now session) (tree_with before now writes)) write_rules at named
IsSkipped before now session writes (ValidateDenied at pattern why) = GrantsAll before now session writes × FailsFirst before now session writes at (texts pattern) why × (map part_of_text (texts pattern) ≡ pattern)
IsSkipped before now session writes TreeFull = GrantsAll before now session writes × Validates before now session writes × Overflows before now writes
IsSkipped before now session writes NoMemory = ⊥
IsSkipped before now session writes Spent = ⊥

-- The first action of a session that is leaving is judged at this moment, in this tree, by the rules in force, for who is signed in: it is made, and all listeners are judged again, where all of it is granted and valid and the tree has room, and else it is skipped, with its denial, its first failing place or the room, and nothing is written; it goes either way, and the others stay; where there is none, nothing happens; but for want of memory, and never the other way. (Guide "Enabling Offline Capabilities", how onDisconnect works; the order and the answers are this project's profile.)
pub record IsRunRightly (before : State) (now session : ℕ) (reply : Reply) (after : State) : Type 0 where
  pub ends : reply ≢ Refused NoMemory → MayRun before session → actions_of before session ≡ [] → reply ≡ Ran Empty
  pub makes : reply ≢ Refused NoMemory → MayRun before session → (action : Action) (others : List Action) → actions_of before session ≡ action ∷ others → GrantsAll before now session (writes_of action) → Validates before now session (writes_of action) → Fits before now (writes_of action) → reply ≡ Ran Applied
  pub skips : reply ≢ Refused NoMemory → MayRun before session → (action : Action) (others : List Action) → actions_of before session ≡ action ∷ others → (refusal : Refusal) → IsSkipped before now session (writes_of action) refusal → reply ≡ Ran (Skipped refusal)
  pub ended : reply ≡ Ran Empty → MayRun before session × (actions_of before session ≡ []) × (after ≡ before)
  pub made : reply ≡ Ran Applied → MayRun before session × (action : Action) × (others : List Action) × (actions_of before session ≡ action ∷ others) × GrantsAll before now session (writes_of action) × Validates before now session (writes_of action) × Fits before now (writes_of action) × (after ≡ with_actions (written_to before now (writes_of action)) session others)
  pub skipped : (refusal : Refusal) → reply ≡ Ran (Skipped refusal) → MayRun before session × (action : Action) × (others : List Action) × (actions_of before session ≡ action ∷ others) × IsSkipped before now session (writes_of action) refusal × (after ≡ with_actions before session others)

-- ---- deployments

-- Rules that an administrator deploys on a session that is open and not leaving are in force from then on, all listeners are judged again by them, and nothing else changes, but for want of memory; by anybody else they are refused, and that takes no memory; and never the other way. (This project's profile.)
pub record IsDeployJudged (before : State) (now session : ℕ) (rules : Book) (reply : Reply) (after : State) : Type 0 where
  pub accepts : reply ≢ Refused NoMemory → is_present before session ≡ true → is_admin (identity_of before session) ≡ true → (reply ≡ Done) × (after ≡ deployed before now rules)
  pub refuses : is_present before session ≡ true → is_admin (identity_of before session) ≡ false → reply ≡ Refused NotAdmin
  pub accepted : reply ≡ Done → (is_present before session ≡ true) × (is_admin (identity_of before session) ≡ true) × (after ≡ deployed before now rules)
  pub refused : reply ≡ Refused NotAdmin → (is_present before session ≡ true) × (is_admin (identity_of before session) ≡ false)

-- ---- what is in force, by what was asked and answered before

-- the event was done, and not answered by a value, by news, by a refusal, or by what was run
abbrev pub is_done : Reply → Bool
is_done Done = true
is_done (Value tree) = false
is_done (News notices) = false
is_done (Refused refusal) = false
is_done (Ran ran) = false
is_done (Closed dropped) = true

-- the rules after an event that was done: those that it deploys, else those before it
abbrev pub rules_by : Event → Book → Book
rules_by Open rules = rules
rules_by Close rules = rules
rules_by (SignIn who) rules = rules
rules_by SignOut rules = rules
rules_by (Get path query) rules = rules
rules_by (Set write) rules = rules
rules_by (Remove path) rules = rules
rules_by (Update writes) rules = rules
rules_by (Listen id path query) rules = rules
rules_by (Unlisten id) rules = rules
rules_by Poll rules = rules
rules_by Tick rules = rules
rules_by (Deploy deployed) rules = deployed
rules_by (OnSet write) rules = rules
rules_by (OnRemove path) rules = rules
rules_by (OnUpdate writes) rules = rules
rules_by (OnCancel path) rules = rules
rules_by Leave rules = rules
rules_by RunNext rules = rules

-- who is signed in on a session after an event of it that was done: nobody where it opens, closes or signs out, whoever signs in, else who was before it
abbrev pub identity_by : Event → Option Identity → Option Identity
identity_by Open who = None
identity_by Close who = None
identity_by (SignIn new) who = Some new
identity_by SignOut who = None
identity_by (Get path query) who = who
identity_by (Set write) who = who
identity_by (Remove path) who = who
identity_by (Update writes) who = who
identity_by (Listen id path query) who = who
identity_by (Unlisten id) who = who
identity_by Poll who = who
identity_by Tick who = who
identity_by (Deploy rules) who = who
identity_by (OnSet write) who = who
identity_by (OnRemove path) who = who
identity_by (OnUpdate writes) who = who
identity_by (OnCancel path) who = who
identity_by Leave who = who
identity_by RunNext who = who

-- the rules in force after these calls with these replies: those of the last deployment that was done, else those before them all
abbrev pub rules_after : Book → List Call → List Reply → Book
rules_after rules [] replies = rules
rules_after rules (call ∷ calls) [] = rules
rules_after rules (call ∷ calls) (reply ∷ replies) = rules_after (if is_done reply then rules_by call.event rules else rules) calls replies

-- who is signed in on the session after these calls with these replies: what its last sign-in, sign-out, opening or closing that was done left, else who was before them all
abbrev pub identity_after : ℕ → Option Identity → List Call → List Reply → Option Identity
identity_after session who [] replies = who
identity_after session who (call ∷ calls) [] = who
identity_after session who (call ∷ calls) (reply ∷ replies) = identity_after session (if is_done reply && session == call.session then identity_by call.event who else who) calls replies

-- in the rules that an event deploys, an object has at most one capture, as in every rules file that is not refused. (This project's profile.)
abbrev pub DeploysFile : Event → Type 0
DeploysFile Open = ⊤
DeploysFile Close = ⊤
DeploysFile (SignIn who) = ⊤
DeploysFile SignOut = ⊤
DeploysFile (Get path query) = ⊤
DeploysFile (Set write) = ⊤
DeploysFile (Remove path) = ⊤
DeploysFile (Update writes) = ⊤
DeploysFile (Listen id path query) = ⊤
DeploysFile (Unlisten id) = ⊤
DeploysFile Poll = ⊤
DeploysFile Tick = ⊤
DeploysFile (Deploy rules) = HasOneCapture rules
DeploysFile (OnSet write) = ⊤
DeploysFile (OnRemove path) = ⊤
DeploysFile (OnUpdate writes) = ⊤
DeploysFile (OnCancel path) = ⊤
DeploysFile Leave = ⊤
DeploysFile RunNext = ⊤

-- these calls deploy rules as rules files have them
abbrev pub DeployFiles : List Call → Type 0
DeployFiles [] = ⊤
DeployFiles (call ∷ calls) = DeploysFile call.event × DeployFiles calls

-- ---- calls

-- What a call is answered, by the rules in force before it: it is a step; what is refused before any rule is asked is refused rightly; what no rule can refuse is done; reads, listens, polls, writes, what is established for when the session goes, the run of it, and deployments are judged; a refused call changes nothing; and one that takes no memory is not answered by want of it.
pub record IsJudged (before : State) (call : Call) (reply : Reply) (after : State) : Type 0 where
  pub step : Step before call.now call.session call.event reply after
  pub stopped : IsStoppedRightly before call.session call.event reply
  pub done : (left : State) → Leaves before call.now call.session call.event left → IsDoneRightly before call.session call.event left reply after
  pub read : (path : Path) (query : Option Query) → call.event ≡ Get path query → IsReadJudged before call.now call.session path query reply after
  pub listen : (id : List ℕ) (path : Path) (query : Option Query) → call.event ≡ Listen id path query → IsListenJudged before call.now call.session id path query reply after
  pub poll : call.event ≡ Poll → IsPollJudged before call.now call.session reply after
  pub write : (writes : List Write) → AsksFor call.event writes → IsWriteJudged before call.now call.session writes reply after
  pub keep : (writes : List Write) → KeepsFor call.event writes → IsKeptRightly before call.now call.session writes reply after
  pub run : call.event ≡ RunNext → IsRunRightly before call.now call.session reply after
  pub deploy : (rules : Book) → call.event ≡ Deploy rules → IsDeployJudged before call.now call.session rules reply after
  pub refused : (refusal : Refusal) → reply ≡ Refused refusal → after ≡ before
  pub memory : takes_no_memory before call.session call.event ≡ true → reply ≢ Refused NoMemory

-- A call between others of a run: its own reply among the replies, the states that the calls before it and it leave, that the rules in force at it are those of the last deployment that was done before it, that who is signed in on its session is whom the calls of the session left there, and that it is judged.
pub record IsJudgedAmong (old : State) (earlier : List Call) (call : Call) (later : List Call) (replies : List Reply) (new : State) : Type 0 where
  pub answered : List Reply
  pub reply : Reply
  pub others : List Reply
  pub in_order : replies ≡ answered ++ reply ∷ others
  pub before : State
  pub after : State
  pub arrives : Run old earlier answered before
  pub in_force : before.rules ≡ rules_after old.rules earlier answered
  pub signed_in : identity_of before call.session ≡ identity_after call.session (identity_of old call.session) earlier answered
  pub judged : IsJudged before call reply after
  pub goes_on : Run after later others new
