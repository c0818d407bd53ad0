use Rattle.std.proofs.Common.{◌∙◌, List, ap}
use Rattle.listeners.specs.Table.{Listener, without_id}
use Rattle.rtdb_model.specs.State.{Session}
use Rattle.rtdb_core.specs.Working.Fates.{with_listeners}
use Rattle.rtdb_core.proofs.Without.{dropped}
use Rattle.rtdb_core.proofs.session.Session.unlisten.Goals as goal

pub returns-clause-gone : goal.returns-clause-gone
returns-clause-gone c =
    ap (λ (ls : List Listener). record { identity = c.self.inside.identity; listeners = ls; actions = c.self.inside.actions.items; leaving = c.self.inside.is_leaving }) (dropped c.drop_one.result c.args.id.now c.self.inside.listeners c.drop_one.new.self c.drop_one.ensures.ok c.drop_one.ensures.no_listener c.drop_one.ensures.err)
    ∙ ap (λ (one : Session). with_listeners one (without_id c.args.id.now one.listeners)) c.self.view_is
