-- By the first keys of the paths.
use Rattle.tree_model.proofs.Grafts.{get-children}
use Rattle.tree_model.proofs.children_laws.the_children_of_a_tree.Goals as goal

pub returns : goal.returns
returns c = get-children
