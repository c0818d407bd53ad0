use Rattle.rtdb_model.specs.Step.{with_action}
use Rattle.rtdb_core.proofs.Heard.{established_heard}
use Rattle.rtdb_core.proofs.GoingOn.{either_heard}
use Rattle.rtdb_core.proofs.database.Core.establish.Goals as goal

pub invariant_of-self : goal.invariant_of-self
invariant_of-self c =
    let old = c.self.inside.machine in
    either_heard old c.establish.new.self (with_action old c.args.session c.args.writes) c.establish.result c.self.invariant
    (established_heard old c.args.session c.args.writes c.self.invariant) c.establish.ensures.established c.establish.ensures.unchanged
