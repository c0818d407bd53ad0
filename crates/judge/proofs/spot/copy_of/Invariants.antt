use Rattle.std.proofs.Common.{◌≡◌, take}
use Rattle.judge.proofs.spot.copy_of.Given as goal

-- those so far are copied
abbrev pub invariant-loop-i : goal.invariant-loop-i
invariant-loop-i l = l.copy ≡ take l.i l.captures
