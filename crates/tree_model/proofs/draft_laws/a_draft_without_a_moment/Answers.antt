-- By look-up.
use Rattle.tree_model.proofs.Drafts.{IsFixed-as_draft, as_draft-at}
use Rattle.tree_model.proofs.draft_laws.a_draft_without_a_moment.Goals as goal

pub returns-clause-tree : goal.returns-clause-tree
returns-clause-tree c = IsFixed-as_draft

pub returns-clause-draft : goal.returns-clause-draft
returns-clause-draft c = as_draft-at
