-- By look-up.
use Rattle.tree_model.proofs.Placing.{at_in}
use Rattle.tree_model.proofs.Merging.{IsTree-merged}
use Rattle.tree_model.proofs.put_laws.the_merged_tree_is_a_tree.Goals as goal

pub returns : goal.returns
returns c = λ t ws none tree each. IsTree-merged t ws none tree (λ w i. each w (at_in ws w i))
