use Rattle.rtdb_laws.proofs.RunLaws.{rules_in_force}
use Rattle.rtdb_laws.proofs.run_laws.a_run_changes_the_rules_by_deployments.Goals as goal

pub returns : goal.returns
returns c = rules_in_force
