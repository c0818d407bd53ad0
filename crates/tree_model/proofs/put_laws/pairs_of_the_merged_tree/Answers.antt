-- By look-up.
use Rattle.tree_model.proofs.Merging.{merged_pairs}
use Rattle.tree_model.proofs.put_laws.pairs_of_the_merged_tree.Goals as goal

pub returns : goal.returns
returns c = merged_pairs
