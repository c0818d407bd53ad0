use Rattle.std.proofs.Common.{◌≡◌, ℕ, ◌+◌, ◌*◌, ◌<◌}
use Rattle.std.specs.List.{slice_get}
use Rattle.tree_model.specs.PathMap.{depth}
use Rattle.arena_snapshot.specs.Working.Change.{entries_of}
use Rattle.arena_snapshot.proofs.sameness.+same.Given as goal

abbrev pub decreases-same : goal.decreases-same
decreases-same l = 3 * depth l.view.now + 2

abbrev pub decreases-have_same_children : goal.decreases-have_same_children
decreases-have_same_children l = 3 * depth l.view.now + 1

abbrev pub decreases-have_same_child : goal.decreases-have_same_child
decreases-have_same_child l = 3 * depth l.view.now

abbrev pub invariant-have_same_children-loop-i : goal.invariant-have_same_children-loop-i
invariant-have_same_children-loop-i l = (j : ℕ) → j < l.i → slice_get (entries_of l.view) j ≡ slice_get (entries_of l.other) j
