use Rattle.std.proofs.Common.{ap}
use Rattle.rtdb_model.specs.State.{State}
use Rattle.rtdb_model.proofs.Filling.{moment_is_whole}
use Rattle.rtdb_core.proofs.Refusing.{tree_is_proposed}
use Rattle.rtdb_core.proofs.machine.Machine.judge_later.Goals as goal

pub overlay-requires-clause-moment : goal.overlay-requires-clause-moment
overlay-requires-clause-moment c = moment_is_whole c.args.now c.requires.moment

pub writes_denial-requires-clause-proposes : goal.writes_denial-requires-clause-proposes
writes_denial-requires-clause-proposes c =
    tree_is_proposed c.as_ref.result c.self.inside.tree c.args.self.now.tree c.in_ok-coming.coming c.args.writes.now c.args.now c.as_ref.ensures.value (ap (λ (state : State). state.tree) c.self.view_is) c.in_ok-coming.ensures
