use Rattle.locked_server.proofs.Judging.{judged_at}
use Rattle.locked_server.proofs.history_laws.every_entry_is_judged_by_the_rules_in_force.Goals as goal

pub returns : goal.returns
returns c = judged_at
