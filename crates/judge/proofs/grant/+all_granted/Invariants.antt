use Rattle.std.proofs.Common.{◌+◌, ◌*◌, ◌-◌, ◌≡◌, ◌≤◌, None, length, drop}
use Rattle.judge.specs.Working.Standing.{ask_of, path_of}
use Rattle.judge.specs.Working.Locations.{paths}
use Rattle.judge.proofs.Refusing.{AheadRefused}
use Rattle.judge.proofs.grant.+all_granted.Given as goal

abbrev pub decreases-all_granted_below : goal.decreases-all_granted_below
decreases-all_granted_below l = 3 * (33 - length (path_of l.spot.now)) + 1

abbrev pub decreases-all_granted_at_key : goal.decreases-all_granted_at_key
decreases-all_granted_at_key l = 3 * (33 - length (path_of l.spot.now))

abbrev pub decreases-all_granted_from : goal.decreases-all_granted_from
decreases-all_granted_from l = 3 * (33 - length (path_of l.spot.now)) + 2

abbrev pub invariant-all_granted_below-loop-start : goal.invariant-all_granted_below-loop-start
invariant-all_granted_below-loop-start l = AheadRefused (ask_of l.asking) (path_of l.spot) (length (path_of l.spot)) (paths l.locations) (paths (drop l.start l.locations)) × (l.captures ≡ l.fn.captures) × (l.start ≤ length l.locations) × (l.denial ≡ None)

abbrev pub decreases-all_granted_below-loop-start : goal.decreases-all_granted_below-loop-start
decreases-all_granted_below-loop-start l = length l.locations - l.start
