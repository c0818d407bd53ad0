use Rattle.store.proofs.Silent.{lead_silent}
use Rattle.store.proofs.laws.what_is_replayed_listens_to_nothing.Goals as goal

pub returns : goal.returns
returns c = lead_silent
