use Rattle.rtdb_laws.proofs.Silence.{is_silent}
use Rattle.rtdb_laws.proofs.effect_laws.only_the_listeners_are_left_out.Goals as goal

pub returns : goal.returns
returns c = is_silent
