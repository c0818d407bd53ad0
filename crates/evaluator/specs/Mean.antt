-- What an expression means in an environment: a part of some sort, or None for an error. What a line does not look at is not evaluated.
use Rattle.std.specs.Prelude.{pos, true, false, List, [], ◌∷◌, Option, Some, option_map}
use Rattle.std.specs.Option.{option_and_then}
use Rattle.expr_parser.specs.Tree as t
use Rattle.expr_parser.specs.Tree.{SyntaxTree, Trees, Arguments, Argument}
use Rattle.evaluator.specs.Value.{Value, null, truth, words, Meaning, value, as_value, in_range}
use Rattle.evaluator.specs.Operators.{operated, other_truth, minus_of, chosen}
use Rattle.evaluator.specs.Members.{member}
use Rattle.evaluator.specs.Calls.{Given, nothing, one, two, listed, others, called}
use Rattle.evaluator.specs.Env.{Env, variable, capture}

abbrev mutual
  -- (Reference, expressions; a line for each form of an expression.)
  pub mean : SyntaxTree → Env → Option Meaning
  mean (t.Number n) env = option_map value (in_range (pos n))
  mean (t.Text s) env = Some (value (words s))
  mean t.True env = Some (value (truth true))
  mean t.False env = Some (value (truth false))
  mean t.Null env = Some (value null)
  mean (t.Variable f) env = variable f env
  mean (t.Capture f) env = capture f env
  mean (t.Group x) env = mean x env
  mean (t.Member x f) env = option_and_then (member f) (mean x env)
  mean (t.Call x f xs) env = called f (mean x env) (given xs env)
  mean (t.Not x) env = option_map value (other_truth (as_value (mean x env)))
  mean (t.Negate x) env = option_map value (option_and_then minus_of (as_value (mean x env)))
  mean (t.Operation op x y) env = option_map value (operated op (as_value (mean x env)) (as_value (mean y env)))
  mean (t.Choice c x y) env = option_map value (chosen (as_value (mean c env)) (as_value (mean x env)) (as_value (mean y env)))

  -- what a call is given: nothing, one value, two values, or a list; no method takes anything else
  pub given : Arguments → Env → Given
  given t.no_argument env = nothing
  given (t.argument (t.One x) t.no_argument) env = one (as_value (mean x env))
  given (t.argument (t.Listed xs) t.no_argument) env = listed (values xs env)
  given (t.argument (t.One x) (t.argument (t.One y) t.no_argument)) env = two (as_value (mean x env)) (as_value (mean y env))
  given _ env = others

  -- the values of a list's elements, which are evaluated from left to right
  pub values : Trees → Env → Option (List Value)
  values t.none env = Some []
  values (t.more x xs) env = option_and_then (λ v. option_map (λ vs. v ∷ vs) (values xs env)) (as_value (mean x env))
