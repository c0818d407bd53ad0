-- By look-up.
use Rattle.tree_model.proofs.Grafts.{get-lone-root, sub-lone, child_keys-lone, depth-lone}
use Rattle.tree_model.proofs.Counts.{count-lone}
use Rattle.tree_model.proofs.Lawful.{IsLawful-lone}
use Rattle.tree_model.proofs.tree_laws.one_primitive.Goals as goal

pub returns-clause-root : goal.returns-clause-root
returns-clause-root c = get-lone-root

pub returns-clause-below : goal.returns-clause-below
returns-clause-below c = sub-lone

pub returns-clause-keys : goal.returns-clause-keys
returns-clause-keys c = child_keys-lone

pub returns-clause-count : goal.returns-clause-count
returns-clause-count c = count-lone

pub returns-clause-depth : goal.returns-clause-depth
returns-clause-depth c = depth-lone

pub returns-clause-lawful : goal.returns-clause-lawful
returns-clause-lawful c = IsLawful-lone
