-- Computed, where something exists from the list of pairs.
use Rattle.std.proofs.Common.{refl, ap, [], ◌∷◌, Some}
use Rattle.std.specs.Prelude.{codes, replicate}
use Rattle.std.specs.Str.{is_utf8, chars}
use lib.Utf8.{encode}
use Rattle.tree_model.specs.Key.{is_key}
use Rattle.tree_model.proofs.WorkedValues.{exists-listed}
use Rattle.evaluator.specs.Value.{value, truth}
use Rattle.evaluator.specs.Calls.{snapshot_test, snapshot_call, snapshot_call_with, has_child}
use Rattle.evaluator.specs.Env.{variable}
use Rattle.evaluator.specs.Worked.{pairs}
use Rattle.evaluator.proofs.worked.what_limits_give.Goals as goal

pub returns-clause-longest : goal.returns-clause-longest
returns-clause-longest c = λ env. refl

pub returns-clause-too_long : goal.returns-clause-too_long
returns-clause-too_long c = λ env. refl

pub returns-clause-deepest : goal.returns-clause-deepest
unfolding is_utf8 chars is_key encode variable snapshot_test snapshot_call snapshot_call_with
returns-clause-deepest c = ap (λ b. Some (value (truth b))) (exists-listed pairs (replicate 32 (codes "k")))

pub returns-clause-too_deep : goal.returns-clause-too_deep
unfolding is_utf8 chars is_key encode variable snapshot_test snapshot_call snapshot_call_with
returns-clause-too_deep c = refl

pub returns-clause-longest_key : goal.returns-clause-longest_key
unfolding is_utf8 chars is_key encode variable snapshot_call_with has_child
returns-clause-longest_key c = ap (λ b. Some (value (truth b))) (exists-listed pairs (replicate 768 97 ∷ []))

pub returns-clause-too_long_a_key : goal.returns-clause-too_long_a_key
unfolding is_utf8 chars is_key encode variable snapshot_call_with has_child
returns-clause-too_long_a_key c = refl
