-- By look-up.
use Rattle.tree_model.proofs.Merging.{merged_null_below}
use Rattle.tree_model.proofs.put_laws.null_below_a_primitive.Goals as goal

pub returns : goal.returns
returns c = merged_null_below
