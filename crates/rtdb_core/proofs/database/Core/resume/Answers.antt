use Rattle.rtdb_core.specs.Resumed.{resumed}
use Rattle.rtdb_core.proofs.Heard.{resumed_heard}
use Rattle.rtdb_core.proofs.GoingOn.{either_heard}
use Rattle.rtdb_core.proofs.database.Core.resume.Goals as goal

pub invariant_of-self : goal.invariant_of-self
invariant_of-self c =
    let old = c.self.inside.machine in
    either_heard old c.resume.new.self (resumed old c.args.session c.args.who c.args.is_leaving) c.resume.result c.self.invariant
    (resumed_heard old c.args.session c.args.who c.args.is_leaving c.self.invariant) c.resume.ensures.resumed c.resume.ensures.unchanged
