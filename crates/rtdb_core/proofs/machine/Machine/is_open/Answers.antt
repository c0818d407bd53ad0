use Rattle.std.proofs.Common.{◌∙◌, ap}
use Rattle.rtdb_model.specs.State.{State, is_open}
use Rattle.rtdb_core.proofs.Sessions.{has}
use Rattle.rtdb_core.proofs.machine.Machine.is_open.Goals as goal

pub returns : goal.returns
returns c = c.contains_key.ensures ∙ has c.self.inside.sessions.entries c.args.session ∙ ap (λ (state : State). is_open state c.args.session) c.self.view_is
