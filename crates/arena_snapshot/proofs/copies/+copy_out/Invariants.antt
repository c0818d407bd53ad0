use Rattle.std.proofs.Common.{◌≡◌, ◌+◌, ◌*◌, take}
use Rattle.tree_model.specs.PathMap.{depth}
use Rattle.arena_snapshot.specs.Working.Change.{entries_of}
use Rattle.arena_snapshot.proofs.copies.+copy_out.Given as goal

abbrev pub decreases-copy_out : goal.decreases-copy_out
decreases-copy_out l = 2 * depth l.view.now + 1

abbrev pub decreases-copies : goal.decreases-copies
decreases-copies l = 2 * depth l.view.now

abbrev pub invariant-copies-loop-i : goal.invariant-copies-loop-i
invariant-copies-loop-i l = l.copies.items ≡ take l.i (entries_of l.view)
