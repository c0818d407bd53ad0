-- Where writes are not valid.
use Rattle.std.specs.Prelude.{◌≡◌, ◌≢◌, ◌||◌, List, Bool, true}
use Rattle.std.specs.List.{list_any}
use Rattle.std.specs.declared.cmp.Ordering.TheVariants.{Less}
use Rattle.tree_model.specs.Path.{Path, path_cmp, is_prefix}
use Rattle.tree_model.specs.PathMap.{exists}
use Rattle.tree_model.specs.Tree.{Tree}
use Rattle.rules_reader.specs.Part.{Pattern}
use Rattle.rules_reader.specs.declared.kind.Kind.TheVariants.{Validate}
use Rattle.evaluator.specs.declared.evaluation.Outcome.{Outcome}
use Rattle.evaluator.specs.declared.evaluation.Outcome.TheVariants.{Yes}
use Rattle.judge.specs.Question.{Scene, writing}
use Rattle.judge.specs.Answers.{Answers, Fails}
use Rattle.judge.specs.declared.verdict.Why.{Why}

-- one is a prefix of the other
abbrev pub is_near : Path → Path → Bool
is_near place location = is_prefix place location || is_prefix location place

-- the place is a prefix of a written location, or extends one
abbrev pub is_touched : List Path → Path → Bool
is_touched locations place = list_any (is_near place) locations

-- the place exists in the proposed tree, is a prefix of a written location or extends one, and the `.validate` that stands there, with this pattern, does not hold, for this reason. (Guide "Core syntax", `.validate` rules do not cascade; how far validation reaches is this project's profile.)
pub record FailsAt (scene : Scene) (proposed : Tree) (locations : List Path) (place : Path) (pattern : Pattern) (why : Why) : Type 0 where
  pub exists : exists proposed place ≡ true
  pub touched : is_touched locations place ≡ true
  pub fails : Fails (writing scene proposed) Validate place pattern why

-- writes at these locations are valid: at each place that exists in the proposed tree and is a prefix of a written location or extends one, the `.validate` that stands there, if one does, holds there. (The same section.)
abbrev pub IsValid : Scene → Tree → List Path → Type 0
IsValid scene proposed locations = (place : Path) (pattern : Pattern) (answer : Outcome) → exists proposed place ≡ true → is_touched locations place ≡ true → Answers (writing scene proposed) Validate place pattern answer → answer ≡ Yes

-- the first failing place, with its pattern and the reason: none that fails is less, by the list of keys, each key by its bytes, a prefix first. (This project's profile.)
pub record IsFirstFailing (scene : Scene) (proposed : Tree) (locations : List Path) (place : Path) (pattern : Pattern) (why : Why) : Type 0 where
  pub fails : FailsAt scene proposed locations place pattern why
  pub least : (other : Path) (p : Pattern) (w : Why) → FailsAt scene proposed locations other p w → path_cmp other place ≢ Less
