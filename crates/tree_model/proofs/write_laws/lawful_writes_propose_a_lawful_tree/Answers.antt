-- By the trees that are put.
use Rattle.tree_model.proofs.Drafts.{IsLawful-proposed}
use Rattle.tree_model.proofs.write_laws.lawful_writes_propose_a_lawful_tree.Goals as goal

pub returns : goal.returns
returns c = IsLawful-proposed
