-- By look-up.
use Rattle.tree_model.proofs.Drafts.{get-at}
use Rattle.tree_model.proofs.draft_laws.a_draft_at_a_moment.Goals as goal

pub returns : goal.returns
returns c = get-at
