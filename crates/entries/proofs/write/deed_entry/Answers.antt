use Rattle.std.proofs.lemmas.Result.{IfOk-weaker}
use Rattle.entries.proofs.Writing.{deed_written}
use Rattle.entries.proofs.write.deed_entry.Goals as goal

pub returns : goal.returns
returns c = IfOk-weaker c.with_stamp.result _ _ (λ entry is. deed_written entry.items c.args.now c.args.session c.args.deed c.in_ok-told.told.items _ c.requires c.ranges.session.fits c.as_slice.ensures.value c.in_ok-told.ensures is) c.with_stamp.ensures
