-- Equal look-ups make equal trees.
use Rattle.tree_model.proofs.Lookups.{same_tree}
use Rattle.tree_model.proofs.tree_laws.equal_lookups_make_equal_trees.Goals as goal

pub returns : goal.returns
returns c = same_tree
