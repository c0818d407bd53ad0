use Rattle.std.proofs.lemmas.Result.{IfOk-weaker}
use Rattle.entries.proofs.Writing.{session_written}
use Rattle.entries.proofs.write.session_entry.Goals as goal

pub returns : goal.returns
returns c = IfOk-weaker c.with_number.result _ _ (λ entry is. session_written entry.items c.args.number c.args.is_leaving _ c.in_ok-json.json.items _ _ c.ranges.number.fits c.as_slice.ensures.value c.in_ok-json.ensures c.in_ok-value.ensures.value is) c.with_number.ensures
