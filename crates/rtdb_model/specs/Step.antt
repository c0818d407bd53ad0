-- One step of a database: what an event is answered, and the state after it.
use Rattle.std.specs.Prelude.{◌≡◌, ◌==◌, ℕ, ◌⊎◌, ◌&&◌, ◌||◌, ◌++◌, List, length, [], ◌∷◌, map, filter, filter_map, Bool, true, false, not, if◌then◌else◌, nat_le, Option, Some, None}
use Rattle.std.specs.FinMap as map_of
use Rattle.std.specs.List.{list_all}
use Rattle.tree_model.specs.Path.{Path, is_prefix}
use Rattle.tree_model.specs.Tree.{Tree, non_null, count}
use Rattle.tree_model.specs.Put.{location, overlaps}
use Rattle.tree_model.specs.Draft.{null_draft}
use Rattle.tree_model.specs.Write.{Write, proposed}
use Rattle.evaluator.specs.Identity.{Identity}
use Rattle.listeners.specs.declared.limits.TheConstants.{MAX_LISTENERS}
use Rattle.listeners.specs.Query.{Query}
use Rattle.listeners.specs.Table.{Listener, begun, has_id, without_id, taken}
use Rattle.rules_reader.specs.Book.{Book}
use Rattle.judge.specs.declared.verdict.Verdict.{Verdict}
use Rattle.judge.specs.declared.verdict.Verdict.TheVariants as verdicts
use Rattle.judge.specs.Tests.{read_verdict, write_verdict}
use Rattle.rtdb_model.specs.declared.limits.TheConstants.{MAX_SESSIONS, MAX_ACTIONS, MAX_LOCATIONS}
use Rattle.rtdb_model.specs.declared.event.Event.{Event}
use Rattle.rtdb_model.specs.declared.event.Event.TheVariants.{Open, Close, SignIn, SignOut, Get, Set, Remove, Update, Listen, Unlisten, Poll, Tick, Deploy, OnSet, OnRemove, OnUpdate, OnCancel, Leave, RunNext}
use Rattle.rtdb_model.specs.declared.reply.Reply.{Reply}
use Rattle.rtdb_model.specs.declared.reply.Reply.TheVariants.{Done, Value, News, Refused, Ran, Closed}
use Rattle.rtdb_model.specs.declared.reply.Ran.TheVariants.{Empty, Applied, Skipped}
use Rattle.rtdb_model.specs.declared.reply.Refusal.{Refusal}
use Rattle.rtdb_model.specs.declared.reply.Refusal.TheVariants.{SessionOpen, TooManySessions, NoSession, NotAdmin, EmptyUpdate, Overlap, DuplicateId, TooManyListeners, NoListener, Leaving, TooManyActions, NotLeaving, ReadDenied, WriteDenied, ValidateDenied, TreeFull, NoMemory}
use Rattle.rtdb_model.specs.declared.news.Notice.{Notice}
use Rattle.rtdb_model.specs.News.{gone, selected_now}
use Rattle.rtdb_model.specs.State.{Action, State, fresh, session_in, is_open, is_leaving, identity_of, listeners_of, actions_of, is_admin, scene_at}
use Rattle.rtdb_model.specs.Rejudged.{asked_for, selected_at, judged_again, all_rejudged}

-- what an event is answered, and the state after it
pub record Outcome : Type 0 where
  pub reply : Reply
  pub after : State

-- a refused event changes nothing
abbrev pub refused : State → Refusal → Outcome
refused old refusal = record { reply = Refused refusal; after = old }

-- it is refused, or this
abbrev pub unless_refused : State → Option Refusal → Outcome → Outcome
unless_refused old None outcome = outcome
unless_refused old (Some refusal) outcome = refused old refusal

-- ---- judged: what the rules refuse

-- the denial of a verdict, with the names that it owes
abbrev pub denial : Verdict → Option Refusal
denial verdicts.Granted = None
denial (verdicts.ReadDenied named) = Some (ReadDenied named)
denial (verdicts.WriteDenied at named) = Some (WriteDenied at named)
denial (verdicts.ValidateDenied at pattern why) = Some (ValidateDenied at pattern why)

-- the tree that these writes propose together at this moment
abbrev pub tree_with : State → ℕ → List Write → Tree
tree_with old now writes = proposed old.tree writes now

-- the verdict on these writes, which are judged together
abbrev pub verdict_on : State → ℕ → ℕ → List Write → Verdict
verdict_on old now session writes = write_verdict (scene_at old now session) (tree_with old now writes) (map location writes)

-- it has more locations than may be
abbrev pub full : Tree → Option Refusal
full tree = if nat_le (count tree) MAX_LOCATIONS then None else Some TreeFull

-- this denial, else that of a tree that is too large
abbrev pub or_full : Option Refusal → Tree → Option Refusal
or_full (Some refusal) tree = Some refusal
or_full None tree = full tree

-- why these writes are refused, if they are: by the rules, else for the size of the tree that they propose
unfoldable pub write_refusal : State → ℕ → ℕ → List Write → Option Refusal
write_refusal old now session writes = or_full (denial (verdict_on old now session writes)) (tree_with old now writes)

-- why a read is refused, if it is
unfoldable pub read_refusal : State → ℕ → ℕ → Path → Option Query → Option Refusal
read_refusal old now session path query = denial (read_verdict (scene_at old now session) (asked_for query) path)

-- ---- each event: its refusals in their order, of which the first that applies is answered, else the success. (This project's profile.)

-- the session is open, and nobody is signed in on it
abbrev pub opened : State → ℕ → State
opened old session = record old { sessions = map_of.insert old.sessions session fresh }

-- a session is opened, if it is not open yet and there is room for one more
abbrev pub opens : State → ℕ → Outcome
opens old session =
    if is_open old session then refused old SessionOpen
    else if nat_le MAX_SESSIONS (map_of.len old.sessions) then refused old TooManySessions
    else record { reply = Done; after = opened old session }

-- the session is gone, with all that it had
abbrev pub closed : State → ℕ → State
closed old session = record old { sessions = map_of.remove old.sessions session }

-- an open session is closed, and answered with how many actions it still had
abbrev pub closes : State → ℕ → Outcome
closes old session =
    if not (is_open old session) then refused old NoSession
    else record { reply = Closed (length (actions_of old session)); after = closed old session }

-- this is who is signed in on the session, and this is what it listens to
abbrev pub with_session : State → ℕ → Option Identity → List Listener → State
with_session old session who listeners = record old { sessions = map_of.insert old.sessions session (record (session_in old session) { identity = who; listeners = listeners }) }

-- what the session listens to, judged again for whoever is signed in
abbrev pub own_again : State → ℕ → ℕ → Option Identity → List Listener
own_again old now session who = map (judged_again old.tree old now who) (listeners_of old session)

-- this is who is signed in on the session, or nobody is, and its listeners are judged again
abbrev pub signed : State → ℕ → ℕ → Option Identity → State
signed old now session who = with_session old session who (own_again old now session who)

-- this person, or nobody, is signed in on an open session
abbrev pub signs : State → ℕ → ℕ → Option Identity → Outcome
signs old now session who =
    if not (is_open old session) then refused old NoSession
    else record { reply = Done; after = signed old now session who }

-- what the query selects of what stands at the path; without a query all of it
abbrev pub value_at : State → Path → Option Query → Outcome
value_at old path query = record { reply = Value (non_null (selected_at old.tree path query)); after = old }

-- a read on an open session is judged, and answered with what it selects
abbrev pub gets : State → ℕ → ℕ → Path → Option Query → Outcome
gets old now session path query =
    if not (is_open old session) then refused old NoSession
    else unless_refused old (read_refusal old now session path query) (value_at old path query)

-- the tree that the writes propose is the tree, and all listeners are judged again
abbrev pub written_to : State → ℕ → List Write → State
written_to old now writes = all_rejudged old.tree now (record old { tree = tree_with old now writes })

-- writes that are made together, or not at all
abbrev pub makes : State → ℕ → ℕ → List Write → Outcome
makes old now session writes = unless_refused old (write_refusal old now session writes) (record { reply = Done; after = written_to old now writes })

-- one write on an open session is judged and made
abbrev pub sets : State → ℕ → ℕ → Write → Outcome
sets old now session write =
    if not (is_open old session) then refused old NoSession
    else makes old now session (write ∷ [])

-- to remove is to write null
abbrev pub removal : Path → Write
removal path = (path, null_draft)

-- writes on an open session are judged and made together, if there are any and no two overlap
abbrev pub updates : State → ℕ → ℕ → List Write → Outcome
updates old now session writes =
    if not (is_open old session) then refused old NoSession
    else if length writes == 0 then refused old EmptyUpdate
    else if overlaps writes then refused old Overlap
    else makes old now session writes

-- there is one listener more, live and without news
abbrev pub listening : State → ℕ → List ℕ → Path → Option Query → State
listening old session id path query = with_session old session (identity_of old session) (listeners_of old session ++ begun id path query ∷ [])

-- a listen is judged as a read, and answered as one
abbrev pub listens : State → ℕ → ℕ → List ℕ → Path → Option Query → Outcome
listens old now session id path query =
    if not (is_open old session) then refused old NoSession
    else if has_id id (listeners_of old session) then refused old DuplicateId
    else if nat_le MAX_LISTENERS (length (listeners_of old session)) then refused old TooManyListeners
    else unless_refused old (read_refusal old now session path query) (record { reply = Value (non_null (selected_at old.tree path query)); after = listening old session id path query })

-- an open session no longer listens under this id
abbrev pub unlistens : State → ℕ → List ℕ → Outcome
unlistens old session id =
    if not (is_open old session) then refused old NoSession
    else if not (has_id id (listeners_of old session)) then refused old NoListener
    else record { reply = Done; after = with_session old session (identity_of old session) (without_id id (listeners_of old session)) }

-- what is reported of a listener: where it is cancelled that it is gone, where there is news for it what it selects now
abbrev pub told : Tree → Listener → Option Notice
told tree l =
    if not l.live then Some (gone l.id)
    else if l.marked then Some (selected_now l.id (non_null (selected_at tree l.path l.query)))
    else None

-- the news of these listeners, in their order
abbrev pub news_of : Tree → List Listener → List Notice
news_of tree listeners = filter_map (told tree) listeners

-- the session's listeners are judged again, and then their news is reported: the cancelled go, and no other is marked
abbrev pub polls : State → ℕ → ℕ → Outcome
polls old now session =
    if not (is_open old session) then refused old NoSession
    else record {
      reply = News (news_of old.tree (own_again old now session (identity_of old session)));
      after = with_session old session (identity_of old session) (taken (own_again old now session (identity_of old session)));
    }

-- time has passed, and all listeners are judged again
abbrev pub ticks : State → ℕ → Outcome
ticks old now = record { reply = Done; after = all_rejudged old.tree now old }

-- these rules are in force, and all listeners are judged again, by them
abbrev pub deployed : State → ℕ → Book → State
deployed old now rules = all_rejudged old.tree now (record old { rules = rules })

-- who is no administrator deploys nothing
abbrev pub deploys : State → ℕ → ℕ → Book → Outcome
deploys old now session rules =
    if not (is_open old session) then refused old NoSession
    else if not (is_admin (identity_of old session)) then refused old NotAdmin
    else record { reply = Done; after = deployed old now rules }

-- ---- what is written when a session goes. (Guide "Enabling Offline Capabilities", how onDisconnect works; the limits and the order are this project's profile.)

-- the action that these writes are, of which none overlaps another
abbrev pub action_of : List Write → Action
action_of writes = map_of.from_entries writes

-- the writes that an action is
abbrev pub writes_of : Action → List Write
writes_of action = map_of.entries action

-- these are the actions of the session
abbrev pub with_actions : State → ℕ → List Action → State
with_actions old session actions = record old { sessions = map_of.insert old.sessions session (record (session_in old session) { actions = actions }) }

-- one action more, behind those that are there
abbrev pub with_action : State → ℕ → List Write → State
with_action old session writes = with_actions old session (actions_of old session ++ action_of writes ∷ [])

-- writes that are judged now, and made when the session goes; whether the tree has room is seen then
abbrev pub keeps : State → ℕ → ℕ → List Write → Outcome
keeps old now session writes =
    if nat_le MAX_ACTIONS (length (actions_of old session)) then refused old TooManyActions
    else unless_refused old (denial (verdict_on old now session writes)) (record { reply = Done; after = with_action old session writes })

-- one write on an open session is kept for when the session goes
abbrev pub keeps_one : State → ℕ → ℕ → Write → Outcome
keeps_one old now session write =
    if not (is_open old session) then refused old NoSession
    else keeps old now session (write ∷ [])

-- writes on an open session are kept as one action for when the session goes, if there are any and no two overlap
abbrev pub keeps_update : State → ℕ → ℕ → List Write → Outcome
keeps_update old now session writes =
    if not (is_open old session) then refused old NoSession
    else if length writes == 0 then refused old EmptyUpdate
    else if overlaps writes then refused old Overlap
    else keeps old now session writes

-- all that the action writes is at the path or below it
abbrev pub is_below : Path → Action → Bool
is_below path action = list_all (is_prefix path) (map_of.keys action)

-- the actions that write elsewhere too stay
abbrev pub without_actions : State → ℕ → Path → State
without_actions old session path = with_actions old session (filter (λ action. not (is_below path action)) (actions_of old session))

-- an open session takes back its actions that write only at the path or below it
abbrev pub cancels : State → ℕ → Path → Outcome
cancels old session path =
    if not (is_open old session) then refused old NoSession
    else record { reply = Done; after = without_actions old session path }

-- the session is leaving
abbrev pub departing : State → ℕ → State
departing old session = record old { sessions = map_of.insert old.sessions session (record (session_in old session) { leaving = true }) }

-- an open session begins to leave
abbrev pub leaves : State → ℕ → Outcome
leaves old session =
    if not (is_open old session) then refused old NoSession
    else record { reply = Done; after = departing old session }

-- the action is judged again, with the moment and the tree that there are now: made, or skipped for this refusal; it goes either way
abbrev pub run_by : State → ℕ → ℕ → List Write → List Action → Option Refusal → Outcome
run_by old now session writes others None = record { reply = Ran Applied; after = with_actions (written_to old now writes) session others }
run_by old now session writes others (Some refusal) = record { reply = Ran (Skipped refusal); after = with_actions old session others }

-- the first action is run, if there is one
abbrev pub runs_first : State → ℕ → ℕ → List Action → Outcome
runs_first old now session [] = record { reply = Ran Empty; after = old }
runs_first old now session (action ∷ others) = run_by old now session (writes_of action) others (write_refusal old now session (writes_of action))

-- the first action of an open session that is leaving is run
abbrev pub runs : State → ℕ → ℕ → Outcome
runs old now session =
    if not (is_open old session) then refused old NoSession
    else if not (is_leaving old session) then refused old NotLeaving
    else runs_first old now session (actions_of old session)

-- ---- all events

-- what an event of this session is answered at this moment where memory suffices, unless the session is leaving
abbrev pub unbarred : State → ℕ → ℕ → Event → Outcome
unbarred old now session Open = opens old session
unbarred old now session Close = closes old session
unbarred old now session (SignIn who) = signs old now session (Some who)
unbarred old now session SignOut = signs old now session None
unbarred old now session (Get path query) = gets old now session path query
unbarred old now session (Set write) = sets old now session write
unbarred old now session (Remove path) = sets old now session (removal path)
unbarred old now session (Update writes) = updates old now session writes
unbarred old now session (Listen id path query) = listens old now session id path query
unbarred old now session (Unlisten id) = unlistens old session id
unbarred old now session Poll = polls old now session
unbarred old now session Tick = ticks old now
unbarred old now session (Deploy rules) = deploys old now session rules
unbarred old now session (OnSet write) = keeps_one old now session write
unbarred old now session (OnRemove path) = keeps_one old now session (removal path)
unbarred old now session (OnUpdate writes) = keeps_update old now session writes
unbarred old now session (OnCancel path) = cancels old session path
unbarred old now session Leave = leaves old session
unbarred old now session RunNext = runs old now session

-- nobody who is leaving asks it: all but an opening, a closing, a tick, and what runs the actions. (This project's profile.)
abbrev pub wants_presence : Event → Bool
wants_presence Open = false
wants_presence Close = false
wants_presence (SignIn who) = true
wants_presence SignOut = true
wants_presence (Get path query) = true
wants_presence (Set write) = true
wants_presence (Remove path) = true
wants_presence (Update writes) = true
wants_presence (Listen id path query) = true
wants_presence (Unlisten id) = true
wants_presence Poll = true
wants_presence Tick = false
wants_presence (Deploy rules) = true
wants_presence (OnSet write) = true
wants_presence (OnRemove path) = true
wants_presence (OnUpdate writes) = true
wants_presence (OnCancel path) = true
wants_presence Leave = true
wants_presence RunNext = false

-- what an event of this session is answered at this moment where memory suffices: whoever is leaving is refused
abbrev pub outcome : State → ℕ → ℕ → Event → Outcome
outcome old now session event =
    if wants_presence event && is_leaving old session then refused old Leaving
    else unbarred old now session event

-- where the session is not leaving, the event is answered without memory: it is refused before anything is judged, or it closes a session, ends a listener, takes actions back, or leaves
abbrev pub takes_none : State → ℕ → Event → Bool
takes_none old session Open = is_open old session || nat_le MAX_SESSIONS (map_of.len old.sessions)
takes_none old session Close = true
takes_none old session (SignIn who) = not (is_open old session)
takes_none old session SignOut = not (is_open old session)
takes_none old session (Get path query) = not (is_open old session)
takes_none old session (Set write) = not (is_open old session)
takes_none old session (Remove path) = not (is_open old session)
takes_none old session (Update writes) = not (is_open old session) || length writes == 0 || overlaps writes
takes_none old session (Listen id path query) = not (is_open old session) || has_id id (listeners_of old session) || nat_le MAX_LISTENERS (length (listeners_of old session))
takes_none old session (Unlisten id) = true
takes_none old session Poll = not (is_open old session)
takes_none old session Tick = false
takes_none old session (Deploy rules) = not (is_open old session) || not (is_admin (identity_of old session))
takes_none old session (OnSet write) = not (is_open old session) || nat_le MAX_ACTIONS (length (actions_of old session))
takes_none old session (OnRemove path) = not (is_open old session) || nat_le MAX_ACTIONS (length (actions_of old session))
takes_none old session (OnUpdate writes) = not (is_open old session) || length writes == 0 || overlaps writes || nat_le MAX_ACTIONS (length (actions_of old session))
takes_none old session (OnCancel path) = true
takes_none old session Leave = true
takes_none old session RunNext = not (is_open old session) || not (is_leaving old session)

-- the event is answered without memory: whoever is leaving is refused so, and else as above
abbrev pub takes_no_memory : State → ℕ → Event → Bool
takes_no_memory old session event = (wants_presence event && is_leaving old session) || takes_none old session event

-- From old, at this moment, the event of this session may be answered so, and new is the state after it: as above, or for want of memory with the state as it was.
unfoldable pub Step : State → ℕ → ℕ → Event → Reply → State → Type 0
Step old now session event reply new =
    (outcome old now session event ≡ record { reply = reply; after = new })
    ⊎ ((reply ≡ Refused NoMemory) × (new ≡ old) × (takes_no_memory old session event ≡ false))

-- ---- runs

-- an event, with the moment and the session that it comes with
pub record Call : Type 0 where
  pub now : ℕ
  pub session : ℕ
  pub event : Event

-- the replies to these calls, one step after another, from old to new
abbrev pub Run : State → List Call → List Reply → State → Type 0
Run old [] [] new = new ≡ old
Run old (call ∷ calls) (reply ∷ replies) new = (mid : State) × Step old call.now call.session call.event reply mid × Run mid calls replies new
Run old [] (reply ∷ replies) new = ⊥
Run old (call ∷ calls) [] new = ⊥
