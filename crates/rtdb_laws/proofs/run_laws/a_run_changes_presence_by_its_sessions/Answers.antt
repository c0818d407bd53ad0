use Rattle.rtdb_laws.proofs.Presence.{open_so, leaving_so}
use Rattle.rtdb_laws.proofs.run_laws.a_run_changes_presence_by_its_sessions.Goals as goal

pub returns-clause-opened : goal.returns-clause-opened
returns-clause-opened c = open_so

pub returns-clause-leaving : goal.returns-clause-leaving
returns-clause-leaving c = leaving_so
