use Rattle.std.proofs.Common.{sym}
use Rattle.tree_model.proofs.Existence.{non_null-null, non_null-some}
use Rattle.path_capture.proofs.update.law_of.Goals as goal

pub returns-in-Some : goal.returns-in-Some
returns-in-Some c = rw c.in-Some.is (sym (non_null-some c.in-Some.node c.law.ensures.some))

pub returns-in-None : goal.returns-in-None
returns-in-None c = rw c.in-None.is (sym non_null-null)
