-- Listeners judged again.
use Rattle.std.specs.Prelude.{ℕ, ◌&&◌, map, Bool, not, if◌then◌else◌, Option, None, Some}
use Rattle.std.specs.FinMap as map_of
use Rattle.std.specs.Ordering.{is_eq}
use Rattle.std.specs.Cmp.Lexicographic.{pointwise}
use Rattle.tree_model.specs.Path.{Path, path_cmp}
use Rattle.tree_model.specs.PathMap.{sub}
use Rattle.tree_model.specs.Primitive.{Primitive}
use Rattle.tree_model.specs.Tree.{Tree}
use Rattle.evaluator.specs.Asked.{Asked, no_query}
use Rattle.evaluator.specs.Identity.{Identity}
use Rattle.rules_reader.specs.declared.kind.Kind.TheVariants.{Read}
use Rattle.judge.specs.Question.{Scene, reading}
use Rattle.judge.specs.Tests.{is_granted}
use Rattle.listeners.specs.Order.{primitive_cmp}
use Rattle.listeners.specs.Query.{Query, asked_by}
use Rattle.listeners.specs.Selection.{selection}
use Rattle.listeners.specs.Table.{Listener, with_mark, cancelled}
use Rattle.rtdb_model.specs.State.{State, Session, scene_for, each_session}

-- what a rule sees of the query of a read, if it has one
abbrev pub asked_for : Option Query → Asked
asked_for None = no_query
asked_for (Some query) = asked_by query

-- whoever is signed in is granted a read of the path with this query, at this moment, by these rules and in this tree. (Guide "Core syntax", `.read` and `.write` rules cascade.)
unfoldable pub hears : Scene → Path → Option Query → Bool
hears scene path query = is_granted (reading scene (asked_for query)) Read path

-- what the query selects of what stands at the path
abbrev pub selected_at : Tree → Path → Option Query → Tree
selected_at tree path query = selection (sub tree path) query

-- the same primitive stands at the same path
abbrev pub same_entry : Path × Primitive → Path × Primitive → Bool
same_entry e f = is_eq (path_cmp e.0 f.0) && is_eq (primitive_cmp e.1 f.1)

-- the same primitives stand at the same paths of both trees
abbrev pub same_tree : Tree → Tree → Bool
same_tree old new = pointwise same_entry (map_of.entries old) (map_of.entries new)

-- what is selected of the new tree is not what was selected of the old one
unfoldable pub moves : Tree → Tree → Path → Option Query → Bool
moves old new path query = not (same_tree (selected_at old path query) (selected_at new path query))

-- one that is live and whose read is not granted is cancelled; where it is granted and what it selects has moved, there is news for it; every other one stays. (Guide "Read and Write Data", listeners; marks are this project's profile.)
abbrev pub judged : (granted moved : Bool) → Listener → Listener
judged granted moved l =
    if not l.live then l
    else if not granted then cancelled l
    else if moved then with_mark l
    else l

-- judged in the new state, at this moment, for whoever is signed in; the tree was the old one
abbrev pub judged_again : Tree → State → ℕ → Option Identity → Listener → Listener
judged_again old new now who l = judged (hears (scene_for new now who) l.path l.query) (moves old new.tree l.path l.query) l

-- a session whose listeners are judged again
abbrev pub rejudged : Tree → State → ℕ → Session → Session
rejudged old new now session = record session { listeners = map (judged_again old new now session.identity) session.listeners }

-- the new state, with all listeners of all sessions judged again
abbrev pub all_rejudged : Tree → ℕ → State → State
all_rejudged old now new = record new { sessions = each_session (rejudged old new now) new.sessions }
