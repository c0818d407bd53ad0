use Rattle.listeners.proofs.Showing.{child_total, child_exact}
use Rattle.listeners.proofs.laws.the_order_of_children.Goals as goal

pub returns-clause-total : goal.returns-clause-total
returns-clause-total c = child_total

pub returns-clause-ties : goal.returns-clause-ties
returns-clause-ties c = child_exact
