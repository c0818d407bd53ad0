-- Computed.
use Rattle.std.proofs.Common.{refl}
use Rattle.std.specs.Str.{chars}
use Rattle.evaluator.specs.Members.{value_part}
use Rattle.evaluator.specs.Texts.{text_test}
use Rattle.evaluator.specs.Texts.{text_change}
use Rattle.evaluator.proofs.worked.what_texts_give.Goals as goal

pub returns-clause-two_bytes : goal.returns-clause-two_bytes
unfolding chars value_part text_test text_change
returns-clause-two_bytes c = λ env. refl

pub returns-clause-four_bytes : goal.returns-clause-four_bytes
unfolding chars value_part text_test text_change
returns-clause-four_bytes c = λ env. refl

pub returns-clause-replaced : goal.returns-clause-replaced
unfolding chars value_part text_test text_change
returns-clause-replaced c = λ env. refl

pub returns-clause-of_nothing : goal.returns-clause-of_nothing
unfolding chars value_part text_test text_change
returns-clause-of_nothing c = λ env. refl

pub returns-clause-inside : goal.returns-clause-inside
unfolding chars value_part text_test text_change
returns-clause-inside c = λ env. refl

pub returns-clause-empty_end : goal.returns-clause-empty_end
unfolding chars value_part text_test text_change
returns-clause-empty_end c = λ env. refl
