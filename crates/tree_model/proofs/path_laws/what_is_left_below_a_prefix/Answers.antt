-- By the laws of what is left.
use Rattle.std.proofs.Common.{ap, ◌∙◌}
use Rattle.tree_model.proofs.Paths.{strip-append, strip_is, prefix-append}
use Rattle.tree_model.proofs.Merging.{prefix_is, proper_is, proper-append}
use Rattle.tree_model.specs.Path.{strip_prefix, is_prefix, is_proper_prefix}
use Rattle.tree_model.proofs.path_laws.what_is_left_below_a_prefix.Goals as goal

pub returns-clause-left : goal.returns-clause-left
returns-clause-left c = λ p q r. (strip_is p q r, λ e. ap (strip_prefix p) e ∙ strip-append p r)

pub returns-clause-prefix : goal.returns-clause-prefix
returns-clause-prefix c = λ p q. (prefix_is p q, λ (r, e). ap (is_prefix p) e ∙ prefix-append p r)

pub returns-clause-proper : goal.returns-clause-proper
returns-clause-proper c = λ p q. (proper_is p q, λ (k, r, e). ap (is_proper_prefix p) e ∙ proper-append p k r)
