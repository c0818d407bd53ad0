-- Computed.
use Rattle.std.proofs.Common.{refl}
use Rattle.tree_model.specs.Primitive.{is_whole}
use Rattle.evaluator.proofs.worked.what_operators_give.Goals as goal

pub returns-clause-negative_remainder : goal.returns-clause-negative_remainder
unfolding is_whole
returns-clause-negative_remainder c = λ env. refl

pub returns-clause-positive_remainder : goal.returns-clause-positive_remainder
unfolding is_whole
returns-clause-positive_remainder c = λ env. refl

pub returns-clause-by_nothing : goal.returns-clause-by_nothing
unfolding is_whole
returns-clause-by_nothing c = λ env. refl

pub returns-clause-greatest : goal.returns-clause-greatest
unfolding is_whole
returns-clause-greatest c = λ env. refl

pub returns-clause-out_of_range : goal.returns-clause-out_of_range
unfolding is_whole
returns-clause-out_of_range c = λ env. refl

pub returns-clause-null_and_false : goal.returns-clause-null_and_false
unfolding is_whole
returns-clause-null_and_false c = λ env. refl

pub returns-clause-number_and_text : goal.returns-clause-number_and_text
unfolding is_whole
returns-clause-number_and_text c = λ env. refl

pub returns-clause-by_bytes : goal.returns-clause-by_bytes
unfolding is_whole
returns-clause-by_bytes c = λ env. refl

pub returns-clause-not_evaluated : goal.returns-clause-not_evaluated
unfolding is_whole
returns-clause-not_evaluated c = λ env. refl

pub returns-clause-evaluated : goal.returns-clause-evaluated
unfolding is_whole
returns-clause-evaluated c = λ env. refl

pub returns-clause-no_boolean : goal.returns-clause-no_boolean
unfolding is_whole
returns-clause-no_boolean c = λ env. refl

pub returns-clause-other_branch : goal.returns-clause-other_branch
unfolding is_whole
returns-clause-other_branch c = λ env. refl
