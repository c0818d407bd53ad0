use Rattle.locked_server.proofs.Running.{polled_so}
use Rattle.locked_server.proofs.history_laws.a_poll_hands_out_what_the_entries_marked.Goals as goal

pub returns : goal.returns
returns c = polled_so
