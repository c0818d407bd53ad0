-- A walk that looks for the first failing place.
use Rattle.std.specs.Prelude.{◌≡◌, ◌≢◌, ℕ, ◌++◌, List, [], ◌∷◌, map, reverse, true, Option, Some, None, MatchOption, IsSomeAnd}
use Rattle.std.specs.declared.cmp.Ordering.TheVariants.{Less}
use Rattle.tree_model.specs.Path.{Path, path_cmp}
use Rattle.tree_model.specs.PathMap.{exists}
use Rattle.tree_model.specs.Tree.{Tree}
use Rattle.rules_reader.specs.Part.{Pattern, texts}
use Rattle.judge.specs.Failing.{is_touched}
use Rattle.judge.specs.Tests.{failing}
use Rattle.judge.specs.Working.Refused.{Ask}
use Rattle.judge.specs.declared.verdict.Why.{Why}
use Rattle.judge.specs.declared.validate.Failure.{Failure}

-- a pattern, and why its rule fails
abbrev pub Fault : Type 0
Fault = Pattern × Why

-- this is the least place of which P says that it fails, and it fails so
pub record IsFirst (P : Path → Pattern × Why → Type 0) (q : Path) (w : Pattern × Why) : Type 0 where
  pub fails : P q w
  pub least : (r : Path) (other : Pattern × Why) → P r other → path_cmp r q ≢ Less

-- the place of a failure, from where its walk began: its keys are added on the way back
abbrev pub place_of : Failure → Path
place_of f = map (λ key. key.now) (reverse f.keys.items)

-- the pattern of the rule that fails, and the reason
abbrev pub fault_of : Failure → Pattern × Why
fault_of f = (texts f.pattern.now, f.why)

-- what a walk reports: the first failing place, or none where nothing fails
abbrev pub Found : (Path → Pattern × Why → Type 0) → Option Failure → Type 0
Found P told = MatchOption told ((q : Path) (w : Pattern × Why) → ¬ (P q w)) (λ f. IsFirst P (place_of f) (fault_of f))

-- a place from `from` on, that exists in the tree and where a rule fails
abbrev pub FailsFrom : Ask → Tree → Path → Path → Pattern × Why → Type 0
FailsFrom ask t from q w = (exists t (from ++ q) ≡ true) × (failing (ask (from ++ q)) ≡ Some w)

-- the same below a key
abbrev pub Below : List ℕ → (Path → Pattern × Why → Type 0) → Path → Pattern × Why → Type 0
Below k P q w = P (k ∷ q) w

-- the same, where one of these locations is touched
abbrev pub Near : List Path → (Path → Pattern × Why → Type 0) → Path → Pattern × Why → Type 0
Near locations P q w = (is_touched locations q ≡ true) × P q w

-- what the rule where a walk stands comes to: its fault, at that very place, or none
abbrev pub FaultsHere : Ask → Path → Option Failure → Type 0
FaultsHere ask path told = MatchOption told (failing (ask path) ≡ None) (λ f. (place_of f ≡ []) × (failing (ask path) ≡ Some (fault_of f)))

-- the walk reports this fault, at the very place
abbrev pub IsToldHere : Pattern × Why → Option Failure → Type 0
IsToldHere fault told = IsSomeAnd told (λ f. (place_of f ≡ []) × (fault_of f ≡ fault))

-- a failure that was reported, if there is one, is reported with the key above it
abbrev pub IsToldBelow : List ℕ → Option Failure → Option Failure → Type 0
IsToldBelow k None next = next ≡ None
IsToldBelow k (Some f) next = IsSomeAnd next (λ g. (place_of g ≡ k ∷ place_of f) × (fault_of g ≡ fault_of f))
