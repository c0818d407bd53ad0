use Rattle.std.proofs.Common.{◌≡◌, ◌≤◌, drop, length}
use Rattle.judge.specs.Working.Refused.{seen_names}
use Rattle.judge.proofs.grant.named.Given as goal

abbrev pub invariant-loop-left : goal.invariant-loop-left
invariant-loop-left l = (l.named.items ≡ seen_names (drop l.left l.seen)) × (l.left ≤ length l.seen)

abbrev pub decreases-loop-left : goal.decreases-loop-left
decreases-loop-left l = l.left
