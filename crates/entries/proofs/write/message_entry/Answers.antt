use Rattle.std.proofs.lemmas.Result.{IfOk-weaker}
use Rattle.entries.proofs.Writing.{message_written}
use Rattle.entries.proofs.write.message_entry.Goals as goal

pub returns : goal.returns
returns c = IfOk-weaker c.with_stamp.result _ _ (λ entry is. message_written entry.items c.args.now c.args.session c.args.message.now c.requires c.ranges.session.fits is) c.with_stamp.ensures
