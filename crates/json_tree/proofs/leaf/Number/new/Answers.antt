use Rattle.std.proofs.Common.{arith}
use Rattle.std.proofs.lemmas.Grind.{common_steps}
use Rattle.tree_model.specs.Primitive.{is_whole}
use Rattle.json_tree.proofs.leaf.Number.new.Goals as goal

pub invariant_of-result : goal.invariant_of-result
unfolding is_whole
invariant_of-result c = grind (arith, common_steps)

pub returns-then-value-le-MAX_WHOLE : goal.returns-then-value-le-MAX_WHOLE
unfolding is_whole
returns-then-value-le-MAX_WHOLE c = grind (arith, common_steps)

pub returns-else-value-ge-MIN_WHOLE : goal.returns-else-value-ge-MIN_WHOLE
unfolding is_whole
returns-else-value-ge-MIN_WHOLE c = grind (arith, common_steps)
