-- The rule that stands at a path, and what it sees there.
use Rattle.std.specs.Prelude.{List, map, Option, option_map, option_and_then}
use Rattle.std.specs.Borrow.{Bor}
use Rattle.tree_model.specs.Key.{Key}
use Rattle.tree_model.specs.Path.{Path}
use Rattle.tree_model.specs.PathMap.{get}
use Rattle.expr_types.specs.Checked.{Checked}
use Rattle.rules_reader.specs.Part.{Pattern}
use Rattle.rules_reader.specs.declared.kind.Kind.{Kind}
use Rattle.rules_reader.specs.Book.{stated_for}
use Rattle.evaluator.specs.Env.{Env, access_of}
use Rattle.evaluator.specs.Holds.{outcome}
use Rattle.evaluator.specs.declared.evaluation.Outcome.{Outcome}
use Rattle.judge.specs.Question.{Question, env_at}
use Rattle.judge.specs.Tests.{standing}
use Rattle.judge.specs.declared.placed.PlacedRule as code

-- a rule at a path: the pattern that states it, its expression, what this sees there, and what the rule answers. (Reference, rules types.)
pub record PlacedRule : Type 0 where
  pub pattern : Pattern
  pub rule : Checked
  pub env : Env
  pub answer : Outcome

-- a rule of this pattern at the path
abbrev pub placed : Question → Path → Pattern → Checked → PlacedRule
placed q path pattern rule = record {
  pattern = pattern;
  rule = rule;
  env = env_at q pattern path;
  answer = outcome rule.tree (env_at q pattern path);
}

-- the rule of this kind that a pattern states, if it states one, at the path
abbrev pub placed_by : Question → Kind → Path → Pattern → Option PlacedRule
placed_by q kind path pattern = option_map (placed q path pattern) (option_and_then (stated_for kind) (get q.scene.book pattern))

-- the rule of this kind that stands at the path, if one does. (Guide "Core syntax", using $ variables to capture path segments.)
unfoldable pub rule_at : Question → Kind → Path → Option PlacedRule
rule_at q kind path = option_and_then (placed_by q kind path) (standing q.scene.book path)

-- ---- that of the code

-- what a placed rule of the code stands for
abbrev pub placed_of : code.PlacedRule → PlacedRule
placed_of r = record {
  pattern = r.node.now.at;
  rule = r.rule.now;
  env = record {
    who = option_map (λ who. who.now) r.auth;
    moment = r.moment;
    here = r.here.now;
    access = access_of r.access;
    captures = r.captures;
  };
  answer = r.answer;
}

-- a path, by its borrowed keys
abbrev pub path_by : List (Bor Key) → Path
path_by keys = map (λ key. key.now) keys
