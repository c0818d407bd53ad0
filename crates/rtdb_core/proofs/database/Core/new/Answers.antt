use Rattle.std.proofs.Common.{sym, subst}
use Rattle.path_capture.specs.Write.{tree_or_null}
use Rattle.rtdb_core.specs.Working.Heard.{AllHeard}
use Rattle.rtdb_core.proofs.Heard.{opening_heard}
use Rattle.rtdb_core.proofs.database.Core.new.Goals as goal

pub invariant_of-result : goal.invariant_of-result
invariant_of-result c = subst AllHeard (sym c.in_ok-machine.ensures.opens) (opening_heard c.args.rules (tree_or_null c.args.tree))
