use Rattle.rtdb_laws.proofs.Establishing.{set_kept, remove_kept, update_kept}
use Rattle.rtdb_laws.proofs.action_laws.what_is_established_is_what_was_asked.Goals as goal

pub returns-clause-set : goal.returns-clause-set
returns-clause-set c = set_kept

pub returns-clause-remove : goal.returns-clause-remove
returns-clause-remove c = remove_kept

pub returns-clause-update : goal.returns-clause-update
returns-clause-update c = update_kept
