use Rattle.std.proofs.Common.{◌≡◌, ◌+◌, ◌-◌, ◌*◌, length, map}
use Rattle.arena_snapshot.specs.View.{node_or_null}
use Rattle.arena_snapshot.specs.Working.Layer.{IsLayer}
use Rattle.arena_snapshot.specs.Working.Left.{left}
use Rattle.arena_snapshot.specs.Working.Patches.{change_of}
use Rattle.arena_snapshot.proofs.Runs.{weight, Laid}
use Rattle.arena_snapshot.proofs.proposal.+lay.Given as goal

abbrev pub decreases-lay : goal.decreases-lay
decreases-lay l = 2 * weight (map (left l.now l.depth) l.writes.now) + 1

abbrev pub decreases-lay_below : goal.decreases-lay_below
decreases-lay_below l = 2 * weight (map (left l.now l.depth) l.writes.now)

abbrev pub invariant-lay_below-loop-start : goal.invariant-lay_below-loop-start
invariant-lay_below-loop-start l = record {
  base : l.layer.base ≡ l.base;
  layer : IsLayer (node_or_null l.layer.base) l.layer.patches.items l.layer.sizes;
  laid : Laid (node_or_null l.base) (map (left l.now l.depth) l.writes) l.start (map change_of l.layer.patches.items);
}

abbrev pub decreases-lay_below-loop-start : goal.decreases-lay_below-loop-start
decreases-lay_below-loop-start l = length l.writes - l.start
