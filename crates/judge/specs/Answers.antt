-- Which rule stands at a path, and what it answers there.
use Rattle.std.specs.Prelude.{◌≡◌, Option, Some, None, option_and_then}
use Rattle.tree_model.specs.Path.{Path}
use Rattle.tree_model.specs.PathMap.{get}
use Rattle.expr_types.specs.Checked.{Checked}
use Rattle.rules_reader.specs.Part.{Pattern}
use Rattle.rules_reader.specs.declared.kind.Kind.{Kind}
use Rattle.rules_reader.specs.Book.{stated_for}
use Rattle.rules_reader.specs.Place.{StandsAt}
use Rattle.evaluator.specs.Holds.{outcome}
use Rattle.evaluator.specs.declared.evaluation.Outcome as code
use Rattle.evaluator.specs.declared.evaluation.Outcome.{Outcome}
use Rattle.evaluator.specs.declared.evaluation.Outcome.TheVariants.{Yes}
use Rattle.judge.specs.Question.{Question, env_at}
use Rattle.judge.specs.declared.verdict.Why.{Why}
use Rattle.judge.specs.declared.verdict.Why.TheVariants.{No, Erred}

-- at the path stands this pattern, it states a rule of this kind, and so the rule answers where the path is its place. (Reference, rules types.)
pub record Answers (q : Question) (kind : Kind) (path : Path) (pattern : Pattern) (answer : Outcome) : Type 0 where
  pub stands : StandsAt q.scene.book pattern path
  pub rule : Checked
  pub states : option_and_then (stated_for kind) (get q.scene.book pattern) ≡ Some rule
  pub is : outcome rule.tree (env_at q pattern path) ≡ answer

-- a rule of this kind stands at the path, and holds there: its expression means true. (Reference, rules types.)
pub record Holds (q : Question) (kind : Kind) (path : Path) : Type 0 where
  pub pattern : Pattern
  pub yes : Answers q kind path pattern Yes

-- why a rule that answers so does not hold: it means false, or it errs; none where it holds. (This project's profile.)
abbrev pub why_of : Outcome → Option Why
why_of Yes = None
why_of code.TheVariants.No = Some No
why_of code.TheVariants.Erred = Some Erred

-- a rule of this kind stands at the path with this pattern, and does not hold there, for this reason
pub record Fails (q : Question) (kind : Kind) (path : Path) (pattern : Pattern) (why : Why) : Type 0 where
  pub answer : Outcome
  pub answers : Answers q kind path pattern answer
  pub reason : why_of answer ≡ Some why
