use Rattle.std.proofs.Common.{[]}
use Rattle.rtdb_model.specs.State.{opening}
use Rattle.rtdb_laws.proofs.Kept.{run_keeps, opening_keeps}
use Rattle.rtdb_laws.proofs.listener_laws.marks_are_history.Goals as goal

pub returns : goal.returns
returns c rules tree calls replies new run = run_keeps [] (opening rules tree) calls replies new run (opening_keeps rules tree)
