use Rattle.locked_server.proofs.Running.{listened_so}
use Rattle.locked_server.proofs.history_laws.what_is_listened_to_is_what_the_entries_began.Goals as goal

pub returns : goal.returns
returns c = listened_so
