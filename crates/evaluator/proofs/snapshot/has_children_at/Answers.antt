use Rattle.std.proofs.Common.{◌∙◌}
use Rattle.evaluator.proofs.Snapshots.{no_children, children_are, is_none-map}
use Rattle.evaluator.proofs.snapshot.has_children_at.Goals as goal

pub returns-in-None : goal.returns-in-None
returns-in-None c = no_children c.args.place.now c.in-None.ensures

pub returns-in-Some : goal.returns-in-Some
returns-in-Some c = is_none-map _ _ _ c.is_none.ensures ∙ children_are _ c.args.place.now _ c.in-Some.ensures c.leaf.ensures c.law.ensures.some c.law.ensures.lawful.tree
