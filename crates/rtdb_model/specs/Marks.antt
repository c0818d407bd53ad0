-- What a listener owes to the run that led to it.
use Rattle.std.specs.Prelude.{◌≡◌, ℕ, ◌==◌, ◌&&◌, ◌||◌, List, [], ◌∷◌, Bool, true, false, not, if◌then◌else◌, bytes_eq, Option, None, Some, is_some}
use Rattle.std.specs.List.{list_any, list_all}
use Rattle.tree_model.specs.Path.{Path}
use Rattle.listeners.specs.Query.{Query}
use Rattle.listeners.specs.Table.{Listener}
use Rattle.rtdb_model.specs.declared.event.Event.{Event}
use Rattle.rtdb_model.specs.declared.event.Event.TheVariants.{Open, Close, SignIn, SignOut, Get, Set, Remove, Update, Listen, Unlisten, Poll, Tick, Deploy, OnSet, OnRemove, OnUpdate, OnCancel, Leave, RunNext}
use Rattle.rtdb_model.specs.declared.reply.Reply.{Reply}
use Rattle.rtdb_model.specs.declared.reply.Reply.TheVariants.{Done, Value, News, Refused, Ran, Closed}
use Rattle.rtdb_model.specs.declared.reply.Ran.{Ran as Outcome}
use Rattle.rtdb_model.specs.declared.reply.Ran.TheVariants.{Empty, Applied, Skipped}
use Rattle.rtdb_model.specs.State.{State, scene_at}
use Rattle.rtdb_model.specs.Rejudged.{hears, moves}
use Rattle.rtdb_model.specs.Step.{Call, Run}

-- a step that was taken: the state before it, what was asked and answered, and the state after it
pub record Taken : Type 0 where
  pub old : State
  pub call : Call
  pub reply : Reply
  pub new : State

-- the steps of a run, the last one first, before those that were taken earlier
abbrev pub steps_after : (earlier : List Taken) (old : State) (calls : List Call) (replies : List Reply) (new : State) → Run old calls replies new → List Taken
steps_after earlier old [] [] new run = earlier
steps_after earlier old (call ∷ calls) (reply ∷ replies) new run = steps_after (record { old = old; call = call; reply = reply; new = run.0 } ∷ earlier) run.0 calls replies new run.2
steps_after earlier old [] (reply ∷ replies) new run = absurd run
steps_after earlier old (call ∷ calls) [] new run = absurd run

-- ---- what a step is to the listeners of a session

-- what it was to run was made
abbrev pub is_applied : Outcome → Bool
is_applied Empty = false
is_applied Applied = true
is_applied (Skipped refusal) = false

-- the event was not refused, and what it was to run was made
abbrev pub is_accepted : Reply → Bool
is_accepted Done = true
is_accepted (Value tree) = true
is_accepted (News notices) = true
is_accepted (Refused refusal) = false
is_accepted (Ran ran) = is_applied ran
is_accepted (Closed dropped) = true

-- where it is accepted, all listeners are judged again
abbrev pub is_of_all : Event → Bool
is_of_all Open = false
is_of_all Close = false
is_of_all (SignIn who) = false
is_of_all SignOut = false
is_of_all (Get path query) = false
is_of_all (Set write) = true
is_of_all (Remove path) = true
is_of_all (Update writes) = true
is_of_all (Listen id path query) = false
is_of_all (Unlisten id) = false
is_of_all Poll = false
is_of_all Tick = true
is_of_all (Deploy rules) = true
is_of_all (OnSet write) = false
is_of_all (OnRemove path) = false
is_of_all (OnUpdate writes) = false
is_of_all (OnCancel path) = false
is_of_all Leave = false
is_of_all RunNext = true

-- where it is accepted, the listeners of its session are judged again
abbrev pub is_of_own : Event → Bool
is_of_own Open = false
is_of_own Close = false
is_of_own (SignIn who) = true
is_of_own SignOut = true
is_of_own (Get path query) = false
is_of_own (Set write) = false
is_of_own (Remove path) = false
is_of_own (Update writes) = false
is_of_own (Listen id path query) = false
is_of_own (Unlisten id) = false
is_of_own Poll = true
is_of_own Tick = false
is_of_own (Deploy rules) = false
is_of_own (OnSet write) = false
is_of_own (OnRemove path) = false
is_of_own (OnUpdate writes) = false
is_of_own (OnCancel path) = false
is_of_own Leave = false
is_of_own RunNext = false

-- it asks for news
abbrev pub is_poll : Event → Bool
is_poll Open = false
is_poll Close = false
is_poll (SignIn who) = false
is_poll SignOut = false
is_poll (Get path query) = false
is_poll (Set write) = false
is_poll (Remove path) = false
is_poll (Update writes) = false
is_poll (Listen id path query) = false
is_poll (Unlisten id) = false
is_poll Poll = true
is_poll Tick = false
is_poll (Deploy rules) = false
is_poll (OnSet write) = false
is_poll (OnRemove path) = false
is_poll (OnUpdate writes) = false
is_poll (OnCancel path) = false
is_poll Leave = false
is_poll RunNext = false

-- what it asks to listen to under this id
abbrev pub asked_under : List ℕ → Event → Option (Path × Option Query)
asked_under id Open = None
asked_under id Close = None
asked_under id (SignIn who) = None
asked_under id SignOut = None
asked_under id (Get path query) = None
asked_under id (Set write) = None
asked_under id (Remove path) = None
asked_under id (Update writes) = None
asked_under id (Listen other path query) = if bytes_eq id other then Some (path, query) else None
asked_under id (Unlisten other) = None
asked_under id Poll = None
asked_under id Tick = None
asked_under id (Deploy rules) = None
asked_under id (OnSet write) = None
asked_under id (OnRemove path) = None
asked_under id (OnUpdate writes) = None
asked_under id (OnCancel path) = None
asked_under id Leave = None
asked_under id RunNext = None

-- the step judged the listeners of the session again
abbrev pub judges : ℕ → Taken → Bool
judges session t = is_accepted t.reply && (is_of_all t.call.event || (is_of_own t.call.event && t.call.session == session))

-- the step is a poll of the session that was answered by news
abbrev pub hands_out : ℕ → Taken → Bool
hands_out session t = is_accepted t.reply && (is_poll t.call.event && t.call.session == session)

-- what the session began by this step to listen to under this id, if it did
abbrev pub begins : ℕ → List ℕ → Taken → Option (Path × Option Query)
begins session id t = if is_accepted t.reply && t.call.session == session then asked_under id t.call.event else None

-- the session is granted a read of the path with this query in the state after the step, at its moment
abbrev pub grants : ℕ → Path → Option Query → Taken → Bool
grants session path query t = hears (scene_at t.new t.call.now session) path query

-- by the step, what the query selects of what stands at the path has moved
abbrev pub moved_by : Path → Option Query → Taken → Bool
moved_by path query t = moves t.old.tree t.new.tree path query

-- ---- two parts of a run, from its end

-- the steps after the last one by which the session began to listen under this id
abbrev pub since : ℕ → List ℕ → List Taken → List Taken
since session id [] = []
since session id (t ∷ earlier) = if is_some (begins session id t) then [] else t ∷ since session id earlier

-- the steps after that, or after the session's last poll that was answered by news, whichever came later
abbrev pub recent : ℕ → List ℕ → List Taken → List Taken
recent session id [] = []
recent session id (t ∷ earlier) = if is_some (begins session id t) || hands_out session t then [] else t ∷ recent session id earlier

-- what the session began by that step to listen to
abbrev pub listened : ℕ → List ℕ → List Taken → Option (Path × Option Query)
listened session id [] = None
listened session id (t ∷ earlier) = if is_some (begins session id t) then begins session id t else listened session id earlier

-- It listens to what its session asked for under its id. It is live exactly where it was granted at every step since that judged it again. There is news for it exactly where it is live and what it selects has moved by some recent step. (This project's profile.)
pub record IsHistory (session : ℕ) (l : Listener) (steps : List Taken) : Type 0 where
  pub asked : listened session l.id steps ≡ Some (l.path, l.query)
  pub live : l.live ≡ list_all (λ t. not (judges session t) || grants session l.path l.query t) (since session l.id steps)
  pub marked : l.marked ≡ (l.live && list_any (moved_by l.path l.query) (recent session l.id steps))
