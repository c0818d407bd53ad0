use Rattle.std.proofs.Common.{◌≡◌, ◌+◌, ◌*◌, None, map, take}
use Rattle.tree_model.specs.PathMap.{depth}
use Rattle.tree_model.specs.Draft.{tree_at}
use Rattle.arena_snapshot.specs.View.{node_or_null}
use Rattle.arena_snapshot.specs.Working.Change.{entries_of}
use Rattle.arena_snapshot.specs.Working.Layer.{IsLayer}
use Rattle.arena_snapshot.specs.Working.Patches.{change_of}
use Rattle.arena_snapshot.proofs.Keeping.{put}
use Rattle.arena_snapshot.proofs.moments.+moments.Given as goal

abbrev pub decreases-at_moment : goal.decreases-at_moment
decreases-at_moment l = 2 * depth l.draft.now + 1

abbrev pub decreases-children_at : goal.decreases-children_at
decreases-children_at l = 2 * depth l.draft.now

abbrev pub invariant-children_at-loop-i : goal.invariant-children_at-loop-i
invariant-children_at-loop-i l =
    (l.layer.base ≡ None)
    × IsLayer (node_or_null l.layer.base) l.layer.patches.items l.layer.sizes
    × (map change_of l.layer.patches.items ≡ map put (take l.i (entries_of (tree_at l.now l.draft))))
