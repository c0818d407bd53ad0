use Rattle.locked_server.proofs.Running.{written_so}
use Rattle.locked_server.proofs.history_laws.what_is_stored_is_what_the_entries_wrote.Goals as goal

pub returns : goal.returns
returns c = written_so
