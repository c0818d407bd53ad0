use Rattle.locked_server.proofs.Running.{marks_so}
use Rattle.locked_server.proofs.history_laws.each_listener_is_what_its_history_says.Goals as goal

pub returns : goal.returns
returns c = marks_so
