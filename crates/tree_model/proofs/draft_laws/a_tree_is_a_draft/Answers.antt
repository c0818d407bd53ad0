-- By look-up.
use Rattle.tree_model.proofs.Drafts.{at-as_draft}
use Rattle.tree_model.proofs.draft_laws.a_tree_is_a_draft.Goals as goal

pub returns : goal.returns
returns c = at-as_draft
