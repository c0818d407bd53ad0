use Rattle.scripts.proofs.Running.{as_run}
use Rattle.scripts.proofs.script_laws.lines_are_answered_by_a_run.Goals as goal

pub returns : goal.returns
returns c = as_run
