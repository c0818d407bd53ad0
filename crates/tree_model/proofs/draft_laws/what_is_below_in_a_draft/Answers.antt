-- By look-up.
use Rattle.tree_model.proofs.Drafts.{sub-at}
use Rattle.tree_model.proofs.draft_laws.what_is_below_in_a_draft.Goals as goal

pub returns : goal.returns
returns c = sub-at
