use Rattle.std.proofs.Common.{◌∙◌, ap}
use Rattle.std.specs.FinMap as map_of
use Rattle.rtdb_model.specs.State.{State, Session}
use Rattle.rtdb_core.proofs.Sessions.{on_ok}
use Rattle.rtdb_core.proofs.machine.Machine.add.Goals as goal

pub returns-clause-ok : goal.returns-clause-ok
returns-clause-ok c =
    let old : State = c.args.self.now in
    on_ok c.put_session-2.result c.put_session-2.ensures.ok (λ is. is ∙ ap (λ (one : Session). record old { sessions = map_of.insert old.sessions c.args.session one }) c.new.ensures)
