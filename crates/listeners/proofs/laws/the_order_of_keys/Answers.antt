use Rattle.listeners.proofs.Orders.{list_total, list_exact}
use Rattle.listeners.proofs.laws.the_order_of_keys.Goals as goal

pub returns-clause-total : goal.returns-clause-total
returns-clause-total c = list_total

pub returns-clause-ties : goal.returns-clause-ties
returns-clause-ties c = list_exact
