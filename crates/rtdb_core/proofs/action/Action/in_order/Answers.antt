use Rattle.std.proofs.Common.{sym, ap, ◌∙◌}
use Rattle.rtdb_model.specs.State.{Action}
use Rattle.rtdb_model.specs.Step.{writes_of}
use Rattle.tree_model.proofs.Writes.{apart_in_any_order}
use Rattle.rtdb_core.proofs.Acting.{writes_are, some_kept}
use Rattle.rtdb_core.proofs.action.Action.in_order.Goals as goal

pub returns-clause-writes : goal.returns-clause-writes
returns-clause-writes c =
    writes_are c.self.inside.writes c.in_order.result.now c.self.invariant.1 c.in_order.ensures.permutation c.in_order.ensures.ascending
    ∙ ap writes_of c.self.view_is

pub returns-clause-some : goal.returns-clause-some
returns-clause-some c = some_kept c.self.inside.writes c.in_order.result.now c.in_order.ensures.permutation c.self.invariant.0

pub returns-clause-apart : goal.returns-clause-apart
returns-clause-apart c = apart_in_any_order c.self.inside.writes c.in_order.result.now c.in_order.ensures.permutation c.self.invariant.1
