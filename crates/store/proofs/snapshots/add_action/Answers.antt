use Rattle.std.proofs.Common.{ℕ, List, Vec, Global}
use Rattle.rtdb_model.specs.State.{State}
use Rattle.store.proofs.Snapping.{action_put}
use Rattle.store.proofs.snapshots.add_action.Goals as goal

pub returns : goal.returns
returns c = λ (text : List ℕ) (state : State) before there.
    action_put (λ (entry : Vec ℕ Global). entry.items) c.args.entries.now.items c.push.new.self.items c.in_ok-entry.entry c.in_ok-push.ensures.items text state c.args.number c.args.action.now c.in_order.result.now before there c.in_ok-entry.ensures c.in_order.ensures.writes c.in_order.ensures.some c.in_order.ensures.apart
