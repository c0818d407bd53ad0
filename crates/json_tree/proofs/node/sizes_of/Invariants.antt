use Rattle.std.proofs.Common.{take}
use Rattle.json_tree.proofs.Sizes.{SoFar}
use Rattle.json_tree.proofs.node.sizes_of.Given as goal

abbrev pub invariant-loop-child : goal.invariant-loop-child
invariant-loop-child l = SoFar (take l.child-index l.child-items) l.depth l.count
