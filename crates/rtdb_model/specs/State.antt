-- The state of a database.
use Rattle.std.specs.Prelude.{ℕ, ◌&&◌, List, [], map, Bool, false, not, Option, None, Some, option_and_then, refl}
use Rattle.std.specs.FinMap as map_of
use Rattle.std.specs.Ordering.{nat_cmp}
use Rattle.std.specs.Coded.{Coded, code_by, coded×, coded_ℕ, coded_bool, coded_list, coded_option}
use Rattle.tree_model.specs.PathMap.{PathMap}
use Rattle.tree_model.specs.Tree.{Tree, tree_code}
use Rattle.tree_model.specs.Draft.{Draft, draft_code}
use Rattle.listeners.specs.Table.{Listener, listener_code}
use Rattle.evaluator.specs.Identity.{Identity, identity_code}
use Rattle.rules_reader.specs.Book.{Book, book_code}
use Rattle.judge.specs.Question.{Scene}

-- what is written when a session goes: of writes that don't overlap, each location with its draft. (Guide "Enabling Offline Capabilities", managing presence.)
abbrev pub Action : Type 0
Action = PathMap Draft

-- a session that is open: who is signed in on it, if anybody is, its listeners in the order in which they began, its actions in the order in which they were established, and whether it is leaving
pub record Session : Type 0 where
  pub identity : Option Identity
  pub listeners : List Listener
  pub actions : List Action
  pub leaving : Bool

-- a session on which nobody is signed in, which listens to nothing, and which has no actions
abbrev pub fresh : Session
fresh = record { identity = None; listeners = []; actions = []; leaving = false }

-- the sessions that are open, by their numbers
abbrev pub Sessions : Type 0
Sessions = map_of.FinMap nat_cmp Session

-- the tree that is stored, the rules in force, and the sessions that are open
pub record State : Type 0 where
  pub tree : Tree
  pub rules : Book
  pub sessions : Sessions

-- the state in which a database opens
abbrev pub opening : Book → Tree → State
opening rules tree = record { tree = tree; rules = rules; sessions = map_of.empty }

-- the session is open
abbrev pub is_open : State → ℕ → Bool
is_open state session = map_of.contains_key state.sessions session

-- who is signed in on the session, if it is open and anybody is. (Reference, `auth` variable.)
abbrev pub identity_of : State → ℕ → Option Identity
identity_of state session = option_and_then (λ (one : Session). one.identity) (map_of.get state.sessions session)

-- what this session listens to: nothing where there is none
abbrev pub listeners_in : Option Session → List Listener
listeners_in None = []
listeners_in (Some one) = one.listeners

-- what the session listens to, in the order in which it began
abbrev pub listeners_of : State → ℕ → List Listener
listeners_of state session = listeners_in (map_of.get state.sessions session)

-- this session, or a fresh one where there is none
abbrev pub session_or_fresh : Option Session → Session
session_or_fresh None = fresh
session_or_fresh (Some one) = one

-- the session, or a fresh one where it is not open
abbrev pub session_in : State → ℕ → Session
session_in state session = session_or_fresh (map_of.get state.sessions session)

-- what the session is to write when it goes, in the order in which it was established
abbrev pub actions_of : State → ℕ → List Action
actions_of state session = (session_in state session).actions

-- the session is open, and is leaving
abbrev pub is_leaving : State → ℕ → Bool
is_leaving state session = (session_in state session).leaving

-- the session is open, and is not leaving
abbrev pub is_present : State → ℕ → Bool
is_present state session = is_open state session && not (is_leaving state session)

-- each session changed so
abbrev pub each_session : (Session → Session) → Sessions → Sessions
each_session change sessions = map_of.from_entries (map (λ e. (e.0, change e.1)) (map_of.entries sessions))

-- somebody is signed in who is an administrator. (This project's profile.)
abbrev pub is_admin : Option Identity → Bool
is_admin None = false
is_admin (Some who) = who.admin

-- what a read is judged by, at this moment: the rules in force, who is signed in, and the tree. (Reference, variables.)
abbrev pub scene_for : State → ℕ → Option Identity → Scene
scene_for state now who = record { book = state.rules; who = who; moment = now; old = state.tree }

-- the same of an event of this session, for who is signed in on it
abbrev pub scene_at : State → ℕ → ℕ → Scene
scene_at state now session = scene_for state now (identity_of state session)

-- ---- as data: what distinguishes two states

-- the coding of an action
abbrev pub action_code : Coded Action
action_code = map_of.code (coded_list (coded_list coded_ℕ)) draft_code

-- the coding of a session
abbrev pub session_code : Coded Session
session_code = code_by (Option Identity × (List Listener × (List Action × Bool))) (coded× (coded_option identity_code) (coded× (coded_list listener_code) (coded× (coded_list action_code) coded_bool))) (λ s. (s.identity, (s.listeners, (s.actions, s.leaving)))) (λ t. record { identity = t.0; listeners = t.1.0; actions = t.1.1.0; leaving = t.1.1.1 }) (λ _. refl)

-- the coding of a state
abbrev pub state_code : Coded State
state_code = code_by (Tree × (Book × Sessions)) (coded× tree_code (coded× book_code (map_of.code coded_ℕ session_code))) (λ s. (s.tree, (s.rules, s.sessions))) (λ t. record { tree = t.0; rules = t.1.0; sessions = t.1.1 }) (λ _. refl)
