use Rattle.std.proofs.Common.{sym, subst}
use Rattle.tree_model.specs.Put.{written}
use Rattle.tree_model.specs.Draft.{IsFixed}
use Rattle.tree_model.specs.Write.{Write}
use Rattle.tree_model.proofs.Writes.{IsFixed-null_draft}
use Rattle.rtdb_core.proofs.machine.Machine.judge.Goals as goal

pub judge_set-requires-in-Remove-clause-fixed : goal.judge_set-requires-in-Remove-clause-fixed
judge_set-requires-in-Remove-clause-fixed c = subst (λ (w : Write). IsFixed (written w)) (sym c.write.ensures) IsFixed-null_draft
