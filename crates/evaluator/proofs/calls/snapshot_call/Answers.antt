use Rattle.evaluator.proofs.Knowing.{snapshot_call_is}
use Rattle.evaluator.proofs.calls.snapshot_call.Goals as goal

pub returns : goal.returns
returns c = rw (snapshot_call_is c.known.result c.args.name.now c.args.place.now c.known.ensures, ← c.call_known.ensures) c.put_part.ensures
