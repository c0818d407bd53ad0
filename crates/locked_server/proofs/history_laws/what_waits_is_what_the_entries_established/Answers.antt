use Rattle.locked_server.proofs.Running.{waits_so}
use Rattle.locked_server.proofs.history_laws.what_waits_is_what_the_entries_established.Goals as goal

pub returns : goal.returns
returns c = waits_so
