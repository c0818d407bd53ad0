use Rattle.locked_server.proofs.Changes.{changed_stays}
use Rattle.locked_server.proofs.history_laws.what_has_changed_stays.Goals as goal

pub returns : goal.returns
returns c = changed_stays
