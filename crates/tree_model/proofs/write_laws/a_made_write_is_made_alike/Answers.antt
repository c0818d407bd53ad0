-- By look-up.
use Rattle.std.proofs.Common.{ap}
use Rattle.tree_model.specs.Put.{location, written}
use Rattle.tree_model.proofs.Drafts.{at-as_draft}
use Rattle.tree_model.proofs.write_laws.a_made_write_is_made_alike.Goals as goal

pub returns : goal.returns
returns c = λ now w. ap (λ t. (location w, t)) (at-as_draft now (written w))
