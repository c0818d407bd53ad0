use Rattle.locked_server.proofs.Changes.{change_last, no_change}
use Rattle.locked_server.proofs.history_laws.a_call_that_changes_is_the_last_change.Goals as goal

pub returns-clause-change : goal.returns-clause-change
returns-clause-change c = change_last

pub returns-clause-none : goal.returns-clause-none
returns-clause-none c = no_change
