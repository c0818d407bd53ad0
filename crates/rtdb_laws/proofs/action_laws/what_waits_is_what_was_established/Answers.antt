use Rattle.std.proofs.Common.{[]}
use Rattle.rtdb_model.specs.State.{opening}
use Rattle.rtdb_laws.proofs.Acted.{run_acts, opening_acts}
use Rattle.rtdb_laws.proofs.action_laws.what_waits_is_what_was_established.Goals as goal

pub returns : goal.returns
returns c rules tree calls replies new run = run_acts [] (opening rules tree) calls replies new run (opening_acts rules tree)
