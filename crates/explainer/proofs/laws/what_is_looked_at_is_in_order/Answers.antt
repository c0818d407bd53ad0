use Rattle.explainer.proofs.Ordered.{ordered}
use Rattle.explainer.proofs.laws.what_is_looked_at_is_in_order.Goals as goal

pub returns : goal.returns
returns c x env = ordered 0 x env
