-- By look-up.
use Rattle.tree_model.proofs.Lawful.{IsLawful-graft}
use Rattle.tree_model.proofs.children_laws.lawful_children.Goals as goal

pub returns : goal.returns
returns c = λ cs h. IsLawful-graft cs h.ascending
