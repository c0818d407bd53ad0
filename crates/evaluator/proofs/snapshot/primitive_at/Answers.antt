use Rattle.std.proofs.Common.{◌∙◌}
use Rattle.evaluator.proofs.Snapshots.{no_primitive, primitive_is}
use Rattle.evaluator.proofs.snapshot.primitive_at.Goals as goal

pub returns-in-None : goal.returns-in-None
returns-in-None c = no_primitive c.args.place.now c.in-None.ensures

pub returns-in-Some : goal.returns-in-Some
returns-in-Some c = c.leaf.ensures ∙ primitive_is _ c.args.place.now c.in-Some.ensures
