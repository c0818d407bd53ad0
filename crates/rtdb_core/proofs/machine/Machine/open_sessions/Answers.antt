use Rattle.std.proofs.Common.{◌∙◌, sym, ap}
use Rattle.std.specs.FinMap as map_of
use Rattle.rtdb_model.specs.State.{State}
use Rattle.rtdb_core.proofs.Sessions.{entries_are}
use Rattle.rtdb_core.proofs.machine.Machine.open_sessions.Goals as goal

pub returns : goal.returns
returns c = sym (entries_are c.self.inside.sessions.entries c.iter.ensures.ordered) ∙ ap (λ (state : State). map_of.entries state.sessions) c.self.view_is
