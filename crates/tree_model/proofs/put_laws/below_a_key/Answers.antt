-- By look-up.
use Rattle.tree_model.proofs.Below.{sub-merged}
use Rattle.tree_model.proofs.put_laws.below_a_key.Goals as goal

pub returns : goal.returns
returns c = sub-merged
