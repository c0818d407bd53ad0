use Rattle.std.proofs.Common.{◌≡◌, ◌++◌, drop, map}
use Rattle.expr_parser.specs.View.{views}
use Rattle.evaluator.specs.Env.{env_of}
use Rattle.explainer.specs.Looks.{look_of, looked_items}
use Rattle.explainer.proofs.explanation.+looks.Given as goal

-- what was looked at so far, and what is left, is what all gives
abbrev pub invariant-elements-loop-item : goal.invariant-elements-loop-item
invariant-elements-loop-item l = map look_of l.looks.items ++ looked_items l.before (views (drop l.item-index l.items)) (env_of l.env) ≡ map look_of l.fn.looks.items ++ looked_items l.at (views l.items) (env_of l.env)
