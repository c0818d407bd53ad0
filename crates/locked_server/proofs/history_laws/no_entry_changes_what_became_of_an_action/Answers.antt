use Rattle.locked_server.proofs.Running.{ended_so}
use Rattle.locked_server.proofs.history_laws.no_entry_changes_what_became_of_an_action.Goals as goal

pub returns : goal.returns
returns c = ended_so
