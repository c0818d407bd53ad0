use Rattle.locked_server.proofs.Running.{failed_so}
use Rattle.locked_server.proofs.history_laws.a_grant_that_fails_at_an_entry_is_the_end.Goals as goal

pub returns : goal.returns
returns c = failed_so
