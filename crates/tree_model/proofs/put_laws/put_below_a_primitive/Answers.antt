-- By look-up.
use Rattle.tree_model.proofs.Merging.{sub-merged_below}
use Rattle.tree_model.proofs.put_laws.put_below_a_primitive.Goals as goal

pub returns : goal.returns
returns c = λ t u p q. sub-merged_below t p q u
