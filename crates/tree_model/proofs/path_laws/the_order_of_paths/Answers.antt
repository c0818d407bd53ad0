-- The order of lists of keys.
use Rattle.tree_model.proofs.Orders.{paths_total, exact_paths}
use Rattle.tree_model.proofs.Paths.{proper_prefix_first}
use Rattle.tree_model.proofs.path_laws.the_order_of_paths.Goals as goal

pub returns-clause-total : goal.returns-clause-total
returns-clause-total c = paths_total

pub returns-clause-ties : goal.returns-clause-ties
returns-clause-ties c = exact_paths

pub returns-clause-prefix_first : goal.returns-clause-prefix_first
returns-clause-prefix_first c = proper_prefix_first
