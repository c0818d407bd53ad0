use Rattle.rtdb_laws.proofs.Storing.{stored_so}
use Rattle.rtdb_laws.proofs.run_laws.what_is_stored_is_what_was_written.Goals as goal

pub returns : goal.returns
returns c = stored_so
