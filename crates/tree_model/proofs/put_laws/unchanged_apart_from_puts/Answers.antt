-- By look-up.
use Rattle.tree_model.proofs.Merging.{sub-merged_apart}
use Rattle.tree_model.proofs.put_laws.unchanged_apart_from_puts.Goals as goal

pub returns : goal.returns
returns c = sub-merged_apart
