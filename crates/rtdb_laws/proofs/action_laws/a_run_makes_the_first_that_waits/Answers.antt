use Rattle.std.proofs.Common.{[], ◌∙◌}
use Rattle.rtdb_model.specs.State.{opening}
use Rattle.rtdb_laws.proofs.Acted.{run_acts, opening_acts, step_makes}
use Rattle.rtdb_laws.proofs.action_laws.a_run_makes_the_first_that_waits.Goals as goal

pub returns : goal.returns
returns c rules tree calls replies old run now session new step =
    let made = step_makes old now session new step in
    (made.0, made.1, run_acts [] (opening rules tree) calls replies old run (opening_acts rules tree) session ∙ made.2, made.3)
