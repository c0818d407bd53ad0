use Rattle.std.proofs.Common.{◌∙◌, ap}
use Rattle.std.specs.FinMap as map_of
use Rattle.rtdb_model.specs.State.{State}
use Rattle.rtdb_core.proofs.Sessions.{count_of}
use Rattle.rtdb_core.proofs.machine.Machine.sessions.Goals as goal

pub returns : goal.returns
returns c = c.len.ensures.len ∙ count_of c.self.inside.sessions.entries c.len.ensures.ordered ∙ ap (λ (state : State). map_of.len state.sessions) c.self.view_is
