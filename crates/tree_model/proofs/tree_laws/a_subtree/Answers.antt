-- By look-up.
use Rattle.tree_model.proofs.Lookups.{get-sub, sub-sub, sub-root}
use Rattle.tree_model.proofs.tree_laws.a_subtree.Goals as goal

pub returns-clause-lookup : goal.returns-clause-lookup
returns-clause-lookup c = get-sub

pub returns-clause-subtree : goal.returns-clause-subtree
returns-clause-subtree c = sub-sub

pub returns-clause-root : goal.returns-clause-root
returns-clause-root c = sub-root
