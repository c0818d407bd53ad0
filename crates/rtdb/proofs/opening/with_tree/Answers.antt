use Rattle.std.proofs.Common.{Err, sym, subst}
use Rattle.path_capture.specs.Write.{tree_or_null}
use Rattle.rtdb.specs.Opening.{BeginsBy}
use Rattle.rtdb.proofs.Begun.{no_tokens}
use Rattle.rtdb.proofs.opening.with_tree.Goals as goal

pub returns-in-Err : goal.returns-in-Err
returns-in-Err c = λ value told is tells.
    subst (λ fault. BeginsBy c.args.rules value told (Err fault)) (sym c.fault_of_tokens.ensures)
    (no_tokens c.args.rules value told (tree_or_null c.args.tree) c.args.tokens c.in-Err.fault is c.in-Err.is tells)
