-- What the parts of a snapshot put back.
use Rattle.std.specs.Prelude.{ℕ}
use Rattle.std.specs.FinMap as map_of
use Rattle.rtdb_model.specs.State.{State, Session}

-- this is the session of that number
abbrev pub with_one : State → ℕ → Session → State
with_one state number one = record state { sessions = map_of.insert state.sessions number one }
