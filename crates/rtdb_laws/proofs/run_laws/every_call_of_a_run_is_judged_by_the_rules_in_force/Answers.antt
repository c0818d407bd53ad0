use Rattle.rtdb_laws.proofs.RunLaws.{judged_among}
use Rattle.rtdb_laws.proofs.run_laws.every_call_of_a_run_is_judged_by_the_rules_in_force.Goals as goal

pub returns : goal.returns
returns c = judged_among
