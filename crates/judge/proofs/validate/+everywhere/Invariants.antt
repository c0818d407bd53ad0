use Rattle.std.proofs.Common.{◌+◌, ◌*◌, ◌-◌, ◌≡◌, None, length, drop}
use Rattle.tree_model.specs.Tree.{child_keys}
use Rattle.judge.specs.Working.Standing.{ask_of, path_of, coming_of}
use Rattle.judge.specs.Working.Found.{FailsFrom}
use Rattle.judge.proofs.Walks.{Ahead}
use Rattle.judge.proofs.validate.+everywhere.Given as goal

abbrev pub decreases-everywhere : goal.decreases-everywhere
decreases-everywhere l = 2 * (33 - length (path_of l.spot.now)) + 1

abbrev pub decreases-everywhere_below : goal.decreases-everywhere_below
decreases-everywhere_below l = 2 * (33 - length (path_of l.spot.now))

abbrev pub invariant-everywhere-loop-i : goal.invariant-everywhere-loop-i
invariant-everywhere-loop-i l = Ahead (FailsFrom (ask_of l.asking) (coming_of l.asking) (path_of l.spot)) (drop l.i (child_keys l.view)) × (l.captures ≡ l.fn.captures) × (l.failure ≡ None)
