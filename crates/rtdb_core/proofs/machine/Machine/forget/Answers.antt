use Rattle.std.proofs.Common.{◌∙◌, is_some, ap}
use Rattle.path_capture.specs.Write.{tree_or_null}
use Rattle.rtdb_model.specs.State.{State, Sessions, is_open}
use Rattle.rtdb_model.specs.Step.{closed}
use Rattle.rtdb_core.proofs.Sessions.{has, without_one}
use Rattle.rtdb_core.proofs.machine.Machine.forget.Goals as goal

pub returns-clause-was : goal.returns-clause-was
returns-clause-was c = c.is_some.ensures ∙ ap is_some c.remove.ensures.value ∙ has c.self.inside.sessions.entries c.args.session ∙ ap (λ (state : State). is_open state c.args.session) c.self.view_is

pub returns-clause-gone : goal.returns-clause-gone
returns-clause-gone c =
    let none = without_one c.self.inside.sessions.entries c.remove.new.self.entries c.args.session c.remove.ensures.updates.0 in
    ap (λ (sessions : Sessions). record { tree = tree_or_null c.self.inside.tree; rules = c.self.inside.rules; sessions = sessions }) none ∙ ap (λ (state : State). closed state c.args.session) c.self.view_is
