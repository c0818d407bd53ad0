-- Where a walk stands.
use Rattle.std.specs.Prelude.{◌≡◌, ℕ, ◌-◌, ◌<◌, ◌++◌, List, [], ◌∷◌, length, Bool, true, false, Option, None, option_map, option_and_then, slice_get}
use Rattle.std.specs.List.{cons_option}
use Rattle.tree_model.specs.declared.limits.TheConstants.{MAX_DEPTH}
use Rattle.tree_model.specs.Key.{Key}
use Rattle.tree_model.specs.Path.{Path}
use Rattle.tree_model.specs.PathMap.{sub}
use Rattle.tree_model.specs.Tree.{Tree, null, non_null}
use Rattle.rules_reader.specs.Part.{Pattern}
use Rattle.rules_reader.specs.declared.kind.Kind.{Kind}
use Rattle.rules_reader.specs.declared.kind.Kind.TheVariants.{Read, Write, Validate}
use Rattle.rules_reader.specs.Spelled.{captured}
use Rattle.rules_reader.specs.Node.{Point}
use Rattle.rules_reader.specs.Place.{HasOneCapture, captures}
use Rattle.rules_reader.proofs.Reached.{Reached}
use Rattle.evaluator.specs.Value.{Snapshot}
use Rattle.evaluator.specs.Snapshot.{below}
use Rattle.evaluator.specs.Env.{Access, reads, writes, access_of}
use Rattle.judge.specs.Question.{Request, read, write, Question, access_at, scene_of}
use Rattle.judge.specs.Tests.{Answer, answer_at}
use Rattle.judge.specs.declared.spot.Asking.{Asking}
use Rattle.judge.specs.declared.spot.Spot.{Spot}

-- the request of an access: what it reads, or the tree that it proposes
abbrev pub request_of : Access → Request
request_of (reads asked) = read asked
request_of (writes s) = write s.0

-- the question that is asked
abbrev pub question_of : Asking → Question
question_of asking = record { scene = scene_of asking.scene.now; request = request_of (access_of asking.access) }

-- the tree that a request proposes
abbrev pub proposed_by : Request → Tree
proposed_by (read asked) = null
proposed_by (write t) = t

-- the tree that the question proposes
abbrev pub coming_of : Asking → Tree
coming_of asking = proposed_by (question_of asking).request

-- what the rules of the kind that is asked answer, path by path
abbrev pub ask_of : Asking → Path → Option Answer
ask_of asking path = answer_at (question_of asking) asking.kind path

-- rules of this kind are asked by such a request
abbrev pub AsksFor : Kind → Request → Type 0
AsksFor Read (read asked) = Unit {0}
AsksFor Read (write t) = ⊥
AsksFor Write (read asked) = ⊥
AsksFor Write (write t) = Unit {0}
AsksFor Validate (read asked) = ⊥
AsksFor Validate (write t) = Unit {0}

-- the name of the capture that the last part of a pattern is, if it is one
abbrev pub last_name : Pattern → Option (List ℕ)
last_name at = option_and_then captured (slice_get at (length at - 1))

-- what the last part of a pattern binds to a key
abbrev pub last_bound : Pattern → Key → List (List ℕ × Key)
last_bound at key = cons_option (option_map (λ name. (name, key)) (last_name at)) []

-- the access one key further down
abbrev pub access_below : Access → Key → Access
access_below (reads asked) key = reads asked
access_below (writes s) key = writes (below s key)

-- what stands at `newData`, if it is there and something does
abbrev pub coming_at : Access → Option Tree
coming_at (reads asked) = None
coming_at (writes s) = non_null (sub s.0 s.1)

-- `newData`, if it is there, has a path of less than 32 keys
abbrev pub AccessHasRoom : Access → Type 0
AccessHasRoom (reads asked) = Unit {0}
AccessHasRoom (writes s) = length s.1 < MAX_DEPTH

-- a walk stands at a path: the rule node is reached there, and what rules there see is that of the question
pub record IsAt (q : Question) (node : Point) (here : Snapshot) (access : Access) (bound : List (List ℕ × Key)) : Type 0 where
  pub one : HasOneCapture q.scene.book
  pub reached : Reached q.scene.book node here.1
  pub old : here.0 ≡ q.scene.old
  pub access_is : access ≡ access_at q.request here.1
  pub bound_is : bound ≡ captures node.at here.1

-- the path at which a spot is
abbrev pub path_of : Spot → Path
path_of spot = spot.here.now.1

-- a spot is one of the question that is asked, and these are the captures there
pub record Stands (asking : Asking) (spot : Spot) (bound : List (List ℕ × Key)) : Type 0 where
  pub at : IsAt (question_of asking) spot.rule.now spot.here.now (access_of spot.access) bound
  pub asks : AsksFor asking.kind (question_of asking).request

-- a spot that is moved one key further down stands there, where a rule node is there; else nothing answers there or below
abbrev pub Entering : Asking → Path → Key → List (List ℕ × Key) → List (List ℕ × Key) → Spot → Bool → Type 0
Entering asking from key old new spot false = (new ≡ old) × ((r : Path) → ask_of asking (from ++ key ∷ r) ≡ None)
Entering asking from key old new spot true = Stands asking spot new × (path_of spot ≡ from ++ key ∷ []) × (new ≡ old ++ last_bound spot.rule.now.at key)

-- a spot at the root, where there are no captures
pub record StandsAtRoot (asking : Asking) (spot : Spot) : Type 0 where
  pub here : Stands asking spot []
  pub root : path_of spot ≡ []

-- a spot that is moved along keys stands at this path, where a rule node is there; else nothing answers there
abbrev pub IsReached : Asking → Path → Spot → List (List ℕ × Key) → Bool → Type 0
IsReached asking path spot bound false = ask_of asking path ≡ None
IsReached asking path spot bound true = Stands asking spot bound × (path_of spot ≡ path)
