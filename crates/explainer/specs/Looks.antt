-- What the meaning of an expression looks at.
use Rattle.std.specs.Prelude.{ℕ, ◌+◌, Bool, true, false, is_some, List, [], ◌∷◌, ◌++◌, Option, Some, None, option_map}
use Rattle.expr_tokens.specs.declared.operator.Operator.{Operator}
use Rattle.expr_tokens.specs.declared.operator.Operator.TheVariants.{And, Or}
use Rattle.expr_parser.specs.Tree as t
use Rattle.expr_parser.specs.Tree.{SyntaxTree, Trees, Arguments}
use Rattle.expr_parser.specs.View.{view}
use Rattle.expr_places.specs.Places.{width}
use Rattle.evaluator.specs.Value.{Meaning, as_value}
use Rattle.evaluator.specs.Operators.{same_truth, as_truth}
use Rattle.evaluator.specs.Env.{Env}
use Rattle.evaluator.specs.Mean.{mean}
use Rattle.evaluator.specs.Parts.{part_of}
use Rattle.explainer.specs.declared.look.Look as code

-- A part of an expression that was looked at: how many tokens of the whole expression are before it, how many it has, the part, and what it means, where None is an error.
pub record Look : Type 0 where
  pub at : ℕ
  pub tokens : ℕ
  pub part : SyntaxTree
  pub meaning : Option Meaning

-- the look at an expression that is behind so many tokens
abbrev pub look : ℕ → SyntaxTree → Env → Look
look n x env = record { at = n; tokens = width x; part = x; meaning = mean x env }

-- ---- what decides whether a part is looked at

-- it is that boolean
abbrev pub is_it : Bool → Option Bool → Bool
is_it b (Some c) = same_truth b c
is_it b None = false

-- the expression means this boolean
abbrev pub means : Bool → SyntaxTree → Env → Bool
means b x env = is_it b (as_truth (as_value (mean x env)))

-- it means a value
abbrev pub means_value : SyntaxTree → Env → Bool
means_value x env = is_some (as_value (mean x env))

-- it means something, and is no error
abbrev pub means_something : SyntaxTree → Env → Bool
means_something x env = is_some (mean x env)

-- whether an operator looks at its right operand, by the left one: `&&` where that means true, `||` where it means false, and every other one where it means a value. (Reference, `&&` and `||` operators.)
abbrev pub looks_right : Operator → SyntaxTree → Env → Bool
looks_right And x env = means true x env
looks_right Or x env = means false x env
looks_right op x env = means_value x env

-- these, if so, or else nothing
abbrev pub only_if : Bool → List Look → List Look
only_if true looks = looks
only_if false looks = []

-- ---- what is looked at

-- the look at the expression itself, which is the last, behind all that it is made of
abbrev pub itself : ℕ → SyntaxTree → Env → List Look
itself n x env = look n x env ∷ []

abbrev mutual
  -- What the meaning of an expression that is behind so many tokens looks at, in the order of evaluation: a line for each form of an expression that has parts. (Reference, expressions.)
  pub looked_at : ℕ → SyntaxTree → Env → List Look
  looked_at n (t.Group x) env = looked_at (n + 1) x env ++ itself n (t.Group x) env
  looked_at n (t.Member x f) env = looked_at n x env ++ itself n (t.Member x f) env
  looked_at n (t.Call x f xs) env = looked_at n x env ++ only_if (means_something x env) (looked_given (n + (width x + 3)) xs env) ++ itself n (t.Call x f xs) env
  looked_at n (t.Not x) env = looked_at (n + 1) x env ++ itself n (t.Not x) env
  looked_at n (t.Negate x) env = looked_at (n + 1) x env ++ itself n (t.Negate x) env
  looked_at n (t.Operation op x y) env = looked_at n x env ++ only_if (looks_right op x env) (looked_at (n + (width x + 1)) y env) ++ itself n (t.Operation op x y) env
  looked_at n (t.Choice c x y) env = looked_at n c env ++ only_if (means true c env) (looked_at (n + (width c + 1)) x env) ++ only_if (means false c env) (looked_at (n + (width c + 1) + (width x + 1)) y env) ++ itself n (t.Choice c x y) env
  looked_at n x env = itself n x env

  -- of what a call is given, where the first argument is behind so many tokens: one value, two, the second only where the first means a value, or a list; no method takes anything else, and nothing of it is looked at
  pub looked_given : ℕ → Arguments → Env → List Look
  looked_given n (t.argument (t.One x) t.no_argument) env = looked_at n x env
  looked_given n (t.argument (t.One x) (t.argument (t.One y) t.no_argument)) env = looked_at n x env ++ only_if (means_value x env) (looked_at (n + (width x + 1)) y env)
  looked_given n (t.argument (t.Listed xs) t.no_argument) env = looked_items (n + 1) xs env
  looked_given n _ env = []

  -- of the elements of a list, where the first is behind so many tokens: up to the first that means no value
  pub looked_items : ℕ → Trees → Env → List Look
  looked_items n t.none env = []
  looked_items n (t.more x xs) env = looked_at n x env ++ only_if (means_value x env) (looked_items (n + (width x + 1)) xs env)

-- ---- those of the code

-- what a look of the code stands for
abbrev pub look_of : code.Look → Look
look_of l = record { at = l.at; tokens = l.tokens; part = view l.part.now; meaning = option_map part_of l.meaning }
