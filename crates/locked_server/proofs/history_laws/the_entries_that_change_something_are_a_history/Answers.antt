use Rattle.locked_server.proofs.Running.{effects_so}
use Rattle.locked_server.proofs.history_laws.the_entries_that_change_something_are_a_history.Goals as goal

pub returns : goal.returns
returns c = effects_so
