use Rattle.std.proofs.Common.{◌∙◌, ap}
use Rattle.std.specs.FinMap as map_of
use Rattle.path_capture.specs.Write.{tree_or_null}
use Rattle.rtdb_model.specs.State.{State, Sessions}
use Rattle.rtdb_core.proofs.Sessions.{with_one}
use Rattle.rtdb_core.proofs.machine.Machine.put_session.Goals as goal

pub returns-clause-ok : goal.returns-clause-ok
returns-clause-ok c =
    ap (λ (sessions : Sessions). record { tree = tree_or_null c.self.inside.tree; rules = c.self.inside.rules; sessions = sessions })
    (with_one c.self.inside.sessions.entries c.insert.new.self.entries c.args.session c.args.one c.in-Ok.ensures.updates.0)
    ∙ ap (λ (state : State). record state { sessions = map_of.insert state.sessions c.args.session c.args.one }) c.self.view_is
