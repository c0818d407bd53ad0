use Rattle.rtdb_core.proofs.Copying.{refused_owned, copy_wants}
use Rattle.rtdb_model.specs.Borrowed.{refusal_of}
use Rattle.rtdb_core.proofs.database.Core.judge_owned.Goals as goal

pub returns-in-Err-owned-clause-refused : goal.returns-in-Err-owned-clause-refused
returns-in-Err-owned-clause-refused c =
    copy_wants c.args.self.now c.args.now c.args.session c.args.event.now c.in-Ok.granted.reply c.in-Ok.ensures.granted.answered c.in-Err-owned.ensures.later

pub returns-in-Err-clause-refused : goal.returns-in-Err-clause-refused
returns-in-Err-clause-refused c =
    refused_owned c.args.self.now c.args.now c.args.session c.args.event.now (refusal_of c.in-Err.refusal) c.refused.result c.in-Err.ensures.refused c.refused.ensures
