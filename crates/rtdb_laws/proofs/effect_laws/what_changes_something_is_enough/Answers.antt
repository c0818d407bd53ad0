use Rattle.rtdb_laws.proofs.Silence.{run_kept, opening_kept}
use Rattle.rtdb_laws.proofs.effect_laws.what_changes_something_is_enough.Goals as goal

pub returns-clause-from_a_state : goal.returns-clause-from_a_state
returns-clause-from_a_state c = run_kept

pub returns-clause-from_the_opening : goal.returns-clause-from_the_opening
returns-clause-from_the_opening c = opening_kept
