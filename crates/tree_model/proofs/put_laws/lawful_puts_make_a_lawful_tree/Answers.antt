-- By look-up.
use Rattle.tree_model.proofs.Placing.{at_in}
use Rattle.tree_model.proofs.Merging.{IsLawful-merged}
use Rattle.tree_model.proofs.put_laws.lawful_puts_make_a_lawful_tree.Goals as goal

pub returns : goal.returns
returns c = λ t ws none lawful each. IsLawful-merged t ws none lawful (λ w i. each w (at_in ws w i))
