use Rattle.std.proofs.Common.{Err, sym, subst}
use Rattle.path_capture.specs.Write.{tree_or_null}
use Rattle.scripts.specs.Working.Opening.{OpensBy}
use Rattle.scripts.proofs.Headers.{no_tokens}
use Rattle.scripts.proofs.header.with_tree.Goals as goal

pub returns-in-Err : goal.returns-in-Err
returns-in-Err c = λ value named is told.
    subst (λ fault. OpensBy c.args.rules value named (Err fault)) (sym c.fault_of_tokens.ensures)
    (no_tokens c.args.rules value named (tree_or_null c.args.tree) c.args.tokens c.in-Err.fault is c.in-Err.is told)
