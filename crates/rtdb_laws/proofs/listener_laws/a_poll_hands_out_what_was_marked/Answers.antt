use Rattle.rtdb_laws.proofs.Polls.{polled}
use Rattle.rtdb_laws.proofs.listener_laws.a_poll_hands_out_what_was_marked.Goals as goal

pub returns : goal.returns
returns c = polled
