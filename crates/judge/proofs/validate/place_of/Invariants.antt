use Rattle.std.proofs.Common.{◌≡◌, ◌≤◌, drop, length, map}
use Rattle.std.specs.Prelude.{reverse}
use Rattle.std.specs.Borrow.{Bor}
use Rattle.tree_model.specs.Key.{Key}
use Rattle.judge.proofs.validate.place_of.Given as goal

abbrev pub invariant-loop-left : goal.invariant-loop-left
invariant-loop-left l = (l.path.items ≡ map (λ (key : Bor Key). key.now) (reverse (drop l.left l.keys))) × (l.left ≤ length l.keys)

abbrev pub decreases-loop-left : goal.decreases-loop-left
decreases-loop-left l = l.left
