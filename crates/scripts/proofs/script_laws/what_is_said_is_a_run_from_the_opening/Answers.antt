use Rattle.scripts.proofs.Running.{said_by_run}
use Rattle.scripts.proofs.script_laws.what_is_said_is_a_run_from_the_opening.Goals as goal

pub returns : goal.returns
returns c = said_by_run
