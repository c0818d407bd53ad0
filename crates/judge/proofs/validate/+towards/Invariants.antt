use Rattle.std.proofs.Common.{◌+◌, ◌*◌, ◌-◌, ◌≡◌, ◌≤◌, None, length, drop}
use Rattle.judge.specs.Working.Standing.{ask_of, path_of, coming_of}
use Rattle.judge.specs.Working.Locations.{paths, rests}
use Rattle.judge.specs.Working.Found.{FailsFrom}
use Rattle.judge.proofs.Near.{AheadNear}
use Rattle.judge.proofs.validate.+towards.Given as goal

abbrev pub decreases-towards : goal.decreases-towards
decreases-towards l = 2 * (33 - length (path_of l.spot.now)) + 1

abbrev pub decreases-towards_below : goal.decreases-towards_below
decreases-towards_below l = 2 * (33 - length (path_of l.spot.now))

abbrev pub invariant-towards-loop-start : goal.invariant-towards-loop-start
invariant-towards-loop-start l = AheadNear (rests (length (path_of l.spot)) (paths l.locations)) (rests (length (path_of l.spot)) (paths (drop l.start l.locations))) (FailsFrom (ask_of l.asking) (coming_of l.asking) (path_of l.spot)) × (l.captures ≡ l.fn.captures) × (l.start ≤ length l.locations) × (l.failure ≡ None)

abbrev pub decreases-towards-loop-start : goal.decreases-towards-loop-start
decreases-towards-loop-start l = length l.locations - l.start
