-- By look-up.
use Rattle.tree_model.proofs.OneByOne.{merged-cons}
use Rattle.tree_model.proofs.put_laws.one_after_another.Goals as goal

pub returns : goal.returns
returns c = merged-cons
