use Rattle.rtdb_laws.proofs.Changes.{step_leaves}
use Rattle.rtdb_laws.proofs.listener_laws.what_a_grant_hangs_on_changes_where_it_is_judged.Goals as goal

pub returns : goal.returns
returns c = step_leaves
