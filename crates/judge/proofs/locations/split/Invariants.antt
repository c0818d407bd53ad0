use Rattle.std.proofs.Common.{length, take, ◌-◌, ◌≤◌}
use Rattle.judge.specs.Working.Locations.{paths, AllBegin}
use Rattle.judge.proofs.locations.split.Given as goal

abbrev pub invariant-loop-end : goal.invariant-loop-end
invariant-loop-end l = (1 ≤ l.end) × (l.end ≤ length l.locations) × AllBegin l.key l.depth (paths (take l.end l.locations))

abbrev pub decreases-loop-end : goal.decreases-loop-end
decreases-loop-end l = length l.locations - l.end
