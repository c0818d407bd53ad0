-- Which calls change a database, but for what its sessions listen to. (This project's profile.)
use Rattle.std.specs.Prelude.{ℕ, ◌≡◌, List, [], ◌∷◌, Bool, true, false, if◌then◌else◌}
use Rattle.rtdb_model.specs.declared.event.Event.{Event}
use Rattle.rtdb_model.specs.declared.event.Event.TheVariants.{Unlisten, Tick}
use Rattle.rtdb_model.specs.declared.reply.Reply.{Reply}
use Rattle.rtdb_model.specs.declared.reply.Reply.TheVariants.{Done, Value, News, Refused, Ran, Closed}
use Rattle.rtdb_model.specs.declared.reply.Ran.TheVariants.{Empty, Applied, Skipped}
use Rattle.rtdb_model.specs.State.{Session, State, each_session, is_open, is_leaving, identity_of, listeners_of, actions_of}
use Rattle.rtdb_model.specs.Step.{Call}

-- the reply is to an event that may have changed something: not a value or news, not a refusal, and not that no action was left to run
abbrev pub is_effective : Reply → Bool
is_effective Done = true
is_effective (Value tree) = false
is_effective (News notices) = false
is_effective (Refused refusal) = false
is_effective (Ran Empty) = false
is_effective (Ran Applied) = true
is_effective (Ran (Skipped refusal)) = true
is_effective (Closed dropped) = true

-- an event that is answered so may change more than listeners: an unlisten and a tick never do, and any other does where its reply is effective
abbrev pub changes : Event → Reply → Bool
changes (Unlisten id) reply = false
changes Tick reply = false
changes event reply = is_effective reply

-- those of these calls that may change more than listeners, as they were answered
abbrev pub changing : List Call → List Reply → List Call
changing [] replies = []
changing (call ∷ calls) [] = []
changing (call ∷ calls) (reply ∷ replies) = if changes call.event reply then call ∷ changing calls replies else changing calls replies

-- the replies to those, in their order
abbrev pub effective : List Call → List Reply → List Reply
effective [] replies = []
effective (call ∷ calls) [] = []
effective (call ∷ calls) (reply ∷ replies) = if changes call.event reply then reply ∷ effective calls replies else effective calls replies

-- the session, listening to nothing
abbrev pub unlistening : Session → Session
unlistening session = record session { listeners = [] }

-- the state in which no session listens to anything, and which is the same in all else
abbrev pub without_listeners : State → State
without_listeners state = record state { sessions = each_session unlistening state.sessions }

-- In the first state no session listens to anything; in all else it is as the second: the tree, the rules, and of each session whether it is open, who is signed in on it, what it is to write when it goes, and whether it is leaving.
pub record IsSilent (silent state : State) : Type 0 where
  pub listeners : (session : ℕ) → listeners_of silent session ≡ []
  pub tree : silent.tree ≡ state.tree
  pub rules : silent.rules ≡ state.rules
  pub opened : (session : ℕ) → is_open silent session ≡ is_open state session
  pub identities : (session : ℕ) → identity_of silent session ≡ identity_of state session
  pub actions : (session : ℕ) → actions_of silent session ≡ actions_of state session
  pub leaving : (session : ℕ) → is_leaving silent session ≡ is_leaving state session
