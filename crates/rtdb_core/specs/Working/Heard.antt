-- Listeners whose reads were granted, as all in a `Core` were. No public clause names these words.
use Rattle.std.specs.Prelude.{◌≡◌, ℕ, List, true, Option, option_and_then, All}
use Rattle.std.specs.FinMap as map_of
use Rattle.tree_model.specs.Path.{Path}
use Rattle.tree_model.specs.PathMap.{sub}
use Rattle.tree_model.specs.Tree.{Tree}
use Rattle.evaluator.specs.Identity.{Identity}
use Rattle.rules_reader.specs.Book.{Book}
use Rattle.judge.specs.Watching.{IsWatched}
use Rattle.listeners.specs.Table.{Listener}
use Rattle.rtdb_model.specs.State.{State, Session, Sessions, listeners_in}
use Rattle.rtdb_model.specs.Rejudged.{hears}
use Rattle.rtdb_core.specs.Working.Fates.{scene_by}

-- one that is live was granted its read at some moment, by these rules, in this tree, for whoever is signed in
abbrev pub IsHeard : Book → Tree → Option Identity → Listener → Type 0
IsHeard rules tree who l = l.live ≡ true → (moment : ℕ) × (hears (scene_by rules tree moment who) l.path l.query ≡ true)

-- so were all of these
abbrev pub AreHeard : Book → Tree → Option Identity → List Listener → Type 0
AreHeard rules tree who listeners = All (IsHeard rules tree who) listeners

-- so were all of these sessions, each for who is signed in on its session
abbrev pub AllHeardIn : Book → Tree → Sessions → Type 0
AllHeardIn rules tree sessions = (session : ℕ) → AreHeard rules tree (option_and_then (λ (one : Session). one.identity) (map_of.get sessions session)) (listeners_in (map_of.get sessions session))

-- so were all of a state, by its rules, in its tree
abbrev pub AllHeard : State → Type 0
AllHeard state = AllHeardIn state.rules state.tree state.sessions

-- in the new tree stands what stood in the old one, where a read of the path looks
pub record IsAsBefore (rules : Book) (old new : Tree) (path : Path) : Type 0 where
  pub place : Path
  pub watched : IsWatched rules path place
  pub same : sub new place ≡ sub old place
