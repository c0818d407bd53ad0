use Rattle.rtdb_core.proofs.Fatings.{IsOnWay}
use Rattle.rtdb_core.proofs.fates.settle.Given as goal

abbrev pub invariant-loop-index : goal.invariant-loop-index
invariant-loop-index l = IsOnWay l.docket.place l.docket.decisions.now l.fn.table l.index l.rest.place l.rest.decisions.now l.table
