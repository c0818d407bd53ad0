use Rattle.std.proofs.Common.{◌+◌, ◌*◌}
use Rattle.tree_model.specs.PathMap.{depth}
use Rattle.json_tree.proofs.Stamping.{AreStamped}
use Rattle.json_tree.proofs.draft.+stamp.Given as goal

-- one level down the marks at each child
abbrev pub decreases-stamp : goal.decreases-stamp
decreases-stamp l = 3 * depth l.marks.now + 1

abbrev pub decreases-stamp_below : goal.decreases-stamp_below
decreases-stamp_below l = 3 * depth l.marks.now

abbrev pub decreases-stamp_child : goal.decreases-stamp_child
decreases-stamp_child l = 3 * depth l.marked.now.1 + 2

abbrev pub invariant-stamp_below-loop-marked : goal.invariant-stamp_below-loop-marked
invariant-stamp_below-loop-marked l = AreStamped l.now l.fn.children.items l.marked-items l.marked-index l.children.items
