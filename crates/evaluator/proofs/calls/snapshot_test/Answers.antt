use Rattle.evaluator.proofs.Knowing.{snapshot_test_is}
use Rattle.evaluator.proofs.calls.snapshot_test.Goals as goal

pub returns : goal.returns
returns c = rw (snapshot_test_is c.known.result c.args.name.now c.args.place.now c.known.ensures, ← c.test_known.ensures) c.put_value.ensures
