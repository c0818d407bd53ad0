-- By the paths of the primitives.
use Rattle.tree_model.proofs.Existence.{found_at_or_below, exists_above, exists_is_not_null, exists_from_not_null, contains-existing}
use Rattle.tree_model.proofs.tree_laws.what_exists.Goals as goal

pub returns-clause-at_or_below : goal.returns-clause-at_or_below
returns-clause-at_or_below c = λ t p. (found_at_or_below t p, λ (q, h). exists_above t p q h)

pub returns-clause-subtree : goal.returns-clause-subtree
returns-clause-subtree c = λ t p. (exists_is_not_null t p, exists_from_not_null t p)

pub returns-clause-counted : goal.returns-clause-counted
returns-clause-counted c = contains-existing
