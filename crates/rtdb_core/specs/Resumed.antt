-- What a database takes back of its sessions when it begins again: their clients are gone, and what they listened to with them. (This project's profile.)
use Rattle.std.specs.Prelude.{◌≡◌, ◌≢◌, ℕ, List, [], Bool, true, false, Option}
use Rattle.std.specs.FinMap as map_of
use Rattle.tree_model.specs.Put.{overlaps}
use Rattle.tree_model.specs.Write.{Write}
use Rattle.evaluator.specs.Identity.{Identity}
use Rattle.rtdb_model.specs.State.{Session, State, is_open}

-- a session that goes on: of whoever was signed in on it, if anybody was, listening to nothing, without actions, and leaving or not. (This project's profile.)
abbrev pub going_on : Option Identity → Bool → Session
going_on who leaving = record { identity = who; listeners = []; actions = []; leaving = leaving }

-- the session is open, and goes on so. (This project's profile.)
abbrev pub resumed : State → ℕ → Option Identity → Bool → State
resumed old session who leaving = record old { sessions = map_of.insert old.sessions session (going_on who leaving) }

-- a session may be resumed: it is not open. Whether there was room for it was asked when it was opened. (This project's profile.)
abbrev pub MayResume : State → ℕ → Type 0
MayResume state session = is_open state session ≡ false

-- these writes may be an action more of the session: it is open, there is a write, and none overlaps another. Whether it might have one more was asked when it was established. (This project's profile.)
pub record MayEstablish (state : State) (session : ℕ) (writes : List Write) : Type 0 where
  pub opened : is_open state session ≡ true
  pub some : writes ≢ []
  pub apart : overlaps writes ≡ false
