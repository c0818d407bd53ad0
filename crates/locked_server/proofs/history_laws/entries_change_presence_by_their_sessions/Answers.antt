use Rattle.locked_server.proofs.Running.{opened_so, left_so}
use Rattle.locked_server.proofs.history_laws.entries_change_presence_by_their_sessions.Goals as goal

pub returns-clause-opened : goal.returns-clause-opened
returns-clause-opened c = opened_so

pub returns-clause-leaving : goal.returns-clause-leaving
returns-clause-leaving c = left_so
