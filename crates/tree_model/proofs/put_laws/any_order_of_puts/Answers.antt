-- By look-up.
use Rattle.tree_model.proofs.Order.{merged-permutation}
use Rattle.tree_model.proofs.put_laws.any_order_of_puts.Goals as goal

pub returns : goal.returns
returns c = merged-permutation
