-- By look-up.
use Rattle.tree_model.proofs.Drafts.{IsLawful-at}
use Rattle.tree_model.proofs.draft_laws.a_lawful_draft_at_a_moment.Goals as goal

pub returns : goal.returns
returns c = IsLawful-at
