use Rattle.std.proofs.Common.{ℕ, List, [], Vec, Global, sym, subst}
use Rattle.store.specs.LeavingWorking.{HasLeft}
use Rattle.store.proofs.Departures.{left_nothing, left_then}
use Rattle.store.proofs.Steps.{texts}
use Rattle.store.proofs.leaving.let_all_leave.Goals as goal

pub sessions-init : goal.sessions-init
sessions-init c = subst (λ (items : List (Vec ℕ Global)). HasLeft c.args.core.now c.args.now [] (texts items) c.args.core.now) (sym c.new-entries.ensures.items) (left_nothing c.args.core.now c.args.now [])

pub sessions-preserved : goal.sessions-preserved
sessions-preserved c = left_then c.args.core.now c.sessions.core c.let_leave.new.core c.args.now [] (texts c.sessions.entries.items) (texts c.let_leave.new.entries.items) c.sessions.invariant c.in_ok-let_leave.ensures.gone
