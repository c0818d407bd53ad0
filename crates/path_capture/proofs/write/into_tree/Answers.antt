use Rattle.std.proofs.Common.{sym}
use Rattle.tree_model.proofs.Writes.{at-null_draft}
use Rattle.path_capture.proofs.write.into_tree.Goals as goal

pub returns-in-None-clause-tree : goal.returns-in-None-clause-tree
returns-in-None-clause-tree c = rw c.in-None.is (sym (at-null_draft 0))
