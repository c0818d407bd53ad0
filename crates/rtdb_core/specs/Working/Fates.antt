-- What events are refused for, and what becomes of listeners, as the code decides and makes it. No public clause stands on these words.
use Rattle.std.specs.Prelude.{ℕ, suc, ◌+◌, ◌-◌, ◌^◌, ◌==◌, List, [], ◌∷◌, ◌++◌, map, length, min, nat_le, ◌&&◌, Bool, not, if◌then◌else◌, Option, None, Some}
use Rattle.std.specs.FinMap as map_of
use Rattle.evaluator.specs.Identity.{Identity}
use Rattle.tree_model.specs.Tree.{Tree}
use Rattle.tree_model.specs.Path.{Path}
use Rattle.tree_model.specs.Put.{location}
use Rattle.tree_model.specs.Write.{Write}
use Rattle.rules_reader.specs.Book.{Book}
use Rattle.judge.specs.Question.{Scene}
use Rattle.judge.specs.declared.verdict.Verdict.{Verdict}
use Rattle.judge.specs.Tests.{read_verdict, write_verdict}
use Rattle.listeners.specs.Query.{Query}
use Rattle.listeners.specs.Table.{Listener, with_mark, cancelled, has_id}
use Rattle.listeners.specs.declared.limits.TheConstants.{MAX_LISTENERS}
use Rattle.rtdb_model.specs.State.{State, Session, Sessions, scene_for}
use Rattle.rtdb_model.specs.Rejudged.{asked_for, hears, moves}
use Rattle.rtdb_model.specs.Step.{denial, or_full, tree_with}
use Rattle.rtdb_model.specs.declared.reply.Refusal.{Refusal}
use Rattle.rtdb_model.specs.declared.reply.Refusal.TheVariants.{DuplicateId, TooManyListeners}
use Rattle.rtdb_core.specs.declared.fates.Fate.{Fate}
use Rattle.rtdb_core.specs.declared.fates.Fate.TheVariants.{Marked, Cancelled}
use Rattle.rtdb_core.specs.declared.fates.Decision.{Decision}

-- ---- one listener

-- what becomes of a listener, None where it stays, as one does that has a mark already
abbrev pub fate_by : (live granted news : Bool) → Option Fate
fate_by live granted news =
    if live then (if granted then (if news then Some Marked else None) else Some Cancelled) else None

-- the live listener after it
abbrev pub fated_live : Fate → Listener → Listener
fated_live Marked l = with_mark l
fated_live Cancelled l = cancelled l

-- the listener after what was decided of it, if anything was; one that is cancelled stays
abbrev pub fated : Option Fate → Listener → Listener
fated None l = l
fated (Some fate) l = if l.live then fated_live fate l else l

-- what listeners are judged by, at this moment: the rules after the step, the tree after it, and who is signed in
abbrev pub scene_by : Book → Tree → ℕ → Option Identity → Scene
scene_by rules new now who = record { book = rules; who = who; moment = now; old = new }

-- what is decided of a listener, if it does not stay as it is
abbrev pub fate_of : Tree → Book → Tree → ℕ → Option Identity → Listener → Option Fate
fate_of old rules new now who l = fate_by l.live (hears (scene_by rules new now who) l.path l.query) (moves old new l.path l.query && not l.marked)

-- ---- all listeners: what is noted are those that don't stay, by their places

-- the decisions on those that don't stay, with their places, which count from this one
abbrev pub sparse : ℕ → List (Option Fate) → List Decision
sparse place [] = []
sparse place (None ∷ fates) = sparse (suc place) fates
sparse place (Some fate ∷ fates) = (record { place = place; fate = fate }) ∷ sparse (suc place) fates

-- what is noted of this place
abbrev pub front : ℕ → List Decision → Option Fate
front place [] = None
front place (d ∷ ds) = if d.place == place then Some d.fate else None

-- what is noted of later places, once this place is done
abbrev pub behind : ℕ → List Decision → List Decision
behind place [] = []
behind place (d ∷ ds) = if d.place == place then ds else d ∷ ds

-- the next place, as far as 64 bits count
abbrev pub next_place : ℕ → ℕ
next_place place = min (place + 1) (2 ^ 64 - 1)

-- the listeners from this place on, once these decisions are made
abbrev pub settled : ℕ → List Decision → List Listener → List Listener
settled place ds [] = []
settled place ds (l ∷ ls) = fated (front place ds) l ∷ settled (next_place place) (behind place ds) ls

-- the place behind these listeners, and the decisions that are left there
abbrev pub left_of : ℕ → List Decision → List Listener → ℕ × List Decision
left_of place ds [] = (place, ds)
left_of place ds (l ∷ ls) = left_of (next_place place) (behind place ds) ls

-- ---- all sessions

-- the session with these listeners
abbrev pub with_listeners : Session → List Listener → Session
with_listeners one listeners = record one { listeners = listeners }

-- the sessions, with their listeners from this place on, once these decisions are made
abbrev pub settled_all : ℕ → List Decision → List (ℕ × Session) → List (ℕ × Session)
settled_all place ds [] = []
settled_all place ds (e ∷ es) =
    let left : ℕ × List Decision = left_of place ds e.1.listeners in
    (e.0, with_listeners e.1 (settled place ds e.1.listeners)) ∷ settled_all left.0 left.1 es

-- what is decided of these sessions, one after another
abbrev pub fates_of : Tree → Book → Tree → ℕ → List Session → List (Option Fate)
fates_of old rules new now [] = []
fates_of old rules new now (one ∷ others) = map (fate_of old rules new now one.identity) one.listeners ++ fates_of old rules new now others

-- the sessions in the order of their numbers
abbrev pub all_sessions : Sessions → List Session
all_sessions sessions = map (λ e. e.1) (map_of.entries sessions)

-- the state once this is made that was decided
abbrev pub with_settled : State → List Decision → State
with_settled state ds = record state { sessions = map_of.from_entries (settled_all 0 ds (map_of.entries state.sessions)) }

-- the tree that the writes propose at this moment is the tree; nothing is judged again yet
abbrev pub with_tree : State → ℕ → List Write → State
with_tree old now writes = record old { tree = tree_with old now writes }

-- these rules are in force; nothing is judged again yet
abbrev pub with_rules : State → Book → State
with_rules old rules = record old { rules = rules }

-- ---- refusals, for whoever is signed in

-- why a read is refused, if it is
unfoldable pub read_refusal_for : State → ℕ → Option Identity → Path → Option Query → Option Refusal
read_refusal_for old now who path query = denial (read_verdict (scene_for old now who) (asked_for query) path)

-- the verdict on writes, which are judged together
abbrev pub verdict_for : State → ℕ → Option Identity → List Write → Verdict
verdict_for old now who writes = write_verdict (scene_for old now who) (tree_with old now writes) (map location writes)

-- why these writes are refused, if they are
unfoldable pub write_refusal_for : State → ℕ → Option Identity → List Write → Option Refusal
write_refusal_for old now who writes = or_full (denial (verdict_for old now who writes)) (tree_with old now writes)

-- why an open session that listens to these can't listen under this id, whatever the rules say
abbrev pub listen_refusal : List Listener → List ℕ → Option Refusal
listen_refusal listeners id =
    if has_id id listeners then Some DuplicateId
    else if nat_le MAX_LISTENERS (length listeners) then Some TooManyListeners
    else None
