use Rattle.listeners.proofs.Orders.{place_total}
use Rattle.listeners.proofs.laws.the_order_of_values.Goals as goal

pub returns : goal.returns
returns c = place_total
