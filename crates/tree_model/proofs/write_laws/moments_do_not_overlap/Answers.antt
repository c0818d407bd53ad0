-- By the locations.
use Rattle.tree_model.proofs.Drafts.{overlaps-made}
use Rattle.tree_model.proofs.write_laws.moments_do_not_overlap.Goals as goal

pub returns : goal.returns
returns c = overlaps-made
