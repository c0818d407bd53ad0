use Rattle.locked_server.proofs.Histories.{goes_on_at_its_end}
use Rattle.locked_server.proofs.history_laws.a_history_goes_on_at_its_end.Goals as goal

pub returns : goal.returns
returns c = goes_on_at_its_end
