-- By the pairs of the trees that are put.
use Rattle.tree_model.proofs.Drafts.{proposed_pairs}
use Rattle.tree_model.proofs.write_laws.pairs_of_the_proposed_tree.Goals as goal

pub returns : goal.returns
returns c = proposed_pairs
