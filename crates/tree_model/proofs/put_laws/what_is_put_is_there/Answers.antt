-- By look-up.
use Rattle.tree_model.proofs.Placing.{is_in, sub-merged_written}
use Rattle.tree_model.proofs.put_laws.what_is_put_is_there.Goals as goal

pub returns : goal.returns
returns c = λ t ws w none among. sub-merged_written t ws w none (is_in ws w among)
