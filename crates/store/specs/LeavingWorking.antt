-- What the parts of a departure make.
use Rattle.std.specs.Prelude.{◌≡◌, ◌<◌, ℕ, List, [], ◌++◌, length, Bool, true, false}
use Rattle.std.specs.FinMap as map_of
use Rattle.rtdb_model.specs.declared.event.Event.TheVariants.{RunNext}
use Rattle.rtdb_model.specs.declared.reply.Reply.{Reply}
use Rattle.rtdb_model.specs.State.{State, is_open, is_leaving, actions_of}
use Rattle.rtdb_model.specs.Step.{Call, Step, Run}
use Rattle.store.specs.Replay.{AreEntriesOf}
use Rattle.store.specs.Leaving.{Departs, AllDepart}

-- departures led from the old database to the new one, and their entries stand behind those that were there
pub record HasLeft (old : State) (now : ℕ) (before after : List (List ℕ)) (new : State) : Type 0 where
  pub calls : List Call
  pub replies : List Reply
  pub more : List (List ℕ)
  pub run : Run old calls replies new
  pub depart : AllDepart now calls replies
  pub kept : AreEntriesOf more calls
  pub after_is : after ≡ before ++ more

-- the session is open and leaving, with as many others as before
pub record IsLeavingAmong (old : State) (session : ℕ) (new : State) : Type 0 where
  pub opened : is_open new session ≡ true
  pub leaving : is_leaving new session ≡ true
  pub same : map_of.len new.sessions ≡ map_of.len old.sessions

-- the first action of a session was run, or it had none
abbrev pub HasRun : State → ℕ → ℕ → State → Bool → Type 0
HasRun old now session new true = (reply : Reply) × Step old now session RunNext reply new × Departs RunNext reply × IsLeavingAmong old session new × (length (actions_of new session) < length (actions_of old session))
HasRun old now session new false = (new ≡ old) × (actions_of old session ≡ [])
