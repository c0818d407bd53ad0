use Rattle.rtdb_laws.proofs.Existence.{some_run}
use Rattle.rtdb_laws.proofs.run_laws.every_list_of_calls_has_a_run.Goals as goal

pub returns : goal.returns
returns c = some_run
