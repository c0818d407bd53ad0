use Rattle.std.proofs.Common.{inr}
use Rattle.std.proofs.lemmas.Result.{IfOk-weaker}
use Rattle.entries.proofs.Writing.{sign_in_written}
use Rattle.entries.proofs.write.told_sign_in.Goals as goal

pub returns : goal.returns
returns c = IfOk-weaker c.joined.result _ _ (λ told is. inr (sign_in_written told.items c.in_ok-json.json.items _ c.args.who.now _ c.as_slice.ensures.value c.in_ok-json.ensures c.in_ok-value.ensures.value is)) c.joined.ensures
