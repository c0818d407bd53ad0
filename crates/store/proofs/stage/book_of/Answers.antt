use Rattle.std.proofs.Common.{subst, Err}
use Rattle.store.specs.Working.{IsBookOf}
use Rattle.store.proofs.Beginning.{book_fault}
use Rattle.store.proofs.stage.book_of.Goals as goal

pub returns-in-Err : goal.returns-in-Err
returns-in-Err c =
    subst (λ t. IsBookOf t (Err c.fault_of_rules.result)) c.as_bytes.ensures.value
    (book_fault c.as_bytes.result.now c.in-Err.fault c.fault_of_rules.result c.in-Err.ensures.refused c.fault_of_rules.ensures)
