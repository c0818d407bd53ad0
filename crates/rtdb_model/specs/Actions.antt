-- What becomes of the actions that a session establishes, read off the steps of a run. (Guide "Enabling Offline Capabilities", how onDisconnect works; the order and the limit are this project's profile.)
use Rattle.std.specs.Prelude.{◌==◌, ◌++◌, ℕ, List, [], ◌∷◌, map, filter, Bool, true, false, if◌then◌else◌}
use Rattle.tree_model.specs.Path.{Path}
use Rattle.tree_model.specs.Write.{Write}
use Rattle.rtdb_model.specs.declared.event.Event.{Event}
use Rattle.rtdb_model.specs.declared.event.Event.TheVariants.{Open, Close, SignIn, SignOut, Get, Set, Remove, Update, Listen, Unlisten, Poll, Tick, Deploy, OnSet, OnRemove, OnUpdate, OnCancel, Leave, RunNext}
use Rattle.rtdb_model.specs.declared.reply.Refusal.{Refusal}
use Rattle.rtdb_model.specs.declared.reply.Reply.{Reply}
use Rattle.rtdb_model.specs.declared.reply.Reply.TheVariants.{Done, Value, News, Refused, Ran, Closed}
use Rattle.rtdb_model.specs.declared.reply.Ran.{Ran as Outcome}
use Rattle.rtdb_model.specs.declared.reply.Ran.TheVariants.{Empty, Applied, Skipped}
use Rattle.rtdb_model.specs.State.{Action}
use Rattle.rtdb_model.specs.Step.{removal, action_of, is_below}
use Rattle.rtdb_model.specs.Headline.{is_done}
use Rattle.rtdb_model.specs.Marks.{Taken}

-- what became of an action: it waits to be run; an OnCancel took it back; it was run and made; it was run and skipped, for this refusal; its session was closed before it was run
pub data Fate : Type 0 where
  waits : Fate
  taken_back : Fate
  made : Fate
  skipped : Refusal → Fate
  dropped : Fate

-- the action still waits to be run
abbrev pub is_waiting : Fate → Bool
is_waiting waits = true
is_waiting taken_back = false
is_waiting made = false
is_waiting (skipped refusal) = false
is_waiting dropped = false

-- an action that was established, and what became of it
pub record Established : Type 0 where
  pub action : Action
  pub fate : Fate

-- it comes to this end, if it waits; what has ended stays as it is
abbrev pub ended_by : Fate → Established → Established
ended_by fate e = if is_waiting e.fate then record { action = e.action; fate = fate } else e

-- it is taken back, if all that it writes is at the path or below it
abbrev pub cancelled_at : Path → Established → Established
cancelled_at path e = if is_below path e.action then ended_by taken_back e else e

-- the first that waits comes to this end
abbrev pub first_ended_by : Fate → List Established → List Established
first_ended_by fate [] = []
first_ended_by fate (e ∷ es) = if is_waiting e.fate then ended_by fate e ∷ es else e ∷ first_ended_by fate es

-- the first that waits is run so, if one is
abbrev pub run_so : Outcome → List Established → List Established
run_so Empty es = es
run_so Applied es = first_ended_by made es
run_so (Skipped refusal) es = first_ended_by (skipped refusal) es

-- what the reply makes of these actions: if an action was run, the first that waits is run so
abbrev pub run_in : Reply → List Established → List Established
run_in Done es = es
run_in (Value tree) es = es
run_in (News notices) es = es
run_in (Refused refusal) es = es
run_in (Ran ran) es = run_so ran es
run_in (Closed left) es = es

-- one more, which waits
abbrev pub one_more : List Write → List Established → List Established
one_more writes es = es ++ record { action = action_of writes; fate = waits } ∷ []

-- what an event of the session that is answered so makes of the actions that it has established
abbrev pub established_by : Event → Reply → List Established → List Established
established_by Open reply es = es
established_by Close reply es = if is_done reply then map (ended_by dropped) es else es
established_by (SignIn who) reply es = es
established_by SignOut reply es = es
established_by (Get path query) reply es = es
established_by (Set write) reply es = es
established_by (Remove path) reply es = es
established_by (Update writes) reply es = es
established_by (Listen id path query) reply es = es
established_by (Unlisten id) reply es = es
established_by Poll reply es = es
established_by Tick reply es = es
established_by (Deploy rules) reply es = es
established_by (OnSet write) reply es = if is_done reply then one_more (write ∷ []) es else es
established_by (OnRemove path) reply es = if is_done reply then one_more (removal path ∷ []) es else es
established_by (OnUpdate writes) reply es = if is_done reply then one_more writes es else es
established_by (OnCancel path) reply es = if is_done reply then map (cancelled_at path) es else es
established_by Leave reply es = es
established_by RunNext reply es = run_in reply es

-- the actions that the session has established by these steps, of which the last comes first: the one that was established first is the first, and each has one fate
abbrev pub established : ℕ → List Taken → List Established
established session [] = []
established session (t ∷ earlier) = if t.call.session == session then established_by t.call.event t.reply (established session earlier) else established session earlier

-- those that wait
abbrev pub waiting : List Established → List Action
waiting es = map (λ e. e.action) (filter (λ e. is_waiting e.fate) es)
