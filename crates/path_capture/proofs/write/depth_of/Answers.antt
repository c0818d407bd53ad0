use Rattle.std.proofs.Common.{sym}
use Rattle.tree_model.proofs.Writes.{depth-null_draft, IsLawful-null_draft}
use Rattle.path_capture.proofs.write.depth_of.Goals as goal

pub returns-in-None-clause-depth : goal.returns-in-None-clause-depth
returns-in-None-clause-depth c = rw c.in-None.is (sym depth-null_draft)

pub returns-in-None-clause-lawful : goal.returns-in-None-clause-lawful
returns-in-None-clause-lawful c = rw c.in-None.is IsLawful-null_draft
