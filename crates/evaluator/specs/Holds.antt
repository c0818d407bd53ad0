-- Whether a rule holds, and why it does not.
use Rattle.std.specs.Prelude.{true, false, Option, Some}
use Rattle.expr_parser.specs.Tree.{SyntaxTree}
use Rattle.evaluator.specs.declared.evaluation.Outcome.{Outcome}
use Rattle.evaluator.specs.declared.evaluation.Outcome.TheVariants.{Yes, No, Erred}
use Rattle.evaluator.specs.Value.{Value, truth, as_value}
use Rattle.evaluator.specs.Env.{Env}
use Rattle.evaluator.specs.Mean.{mean}

-- what a value says of the rule that it is the value of: true holds, false does not, and every other value is an error, as an error is. (Reference, rules types: a rule's expression must be true.)
abbrev pub outcome_of : Option Value → Outcome
outcome_of (Some (truth true)) = Yes
outcome_of (Some (truth false)) = No
outcome_of _ = Erred

-- whether a rule of this expression holds in this environment: Yes where it means true; No, the reason `false`, where it means false; Erred, the reason `error`, in every other case
abbrev pub outcome : SyntaxTree → Env → Outcome
outcome x env = outcome_of (as_value (mean x env))
