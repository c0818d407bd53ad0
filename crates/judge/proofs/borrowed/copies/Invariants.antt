use Rattle.std.proofs.Common.{◌≡◌, take}
use Rattle.judge.proofs.borrowed.copies.Given as goal

abbrev pub invariant-loop-name : goal.invariant-loop-name
invariant-loop-name l = l.named.items ≡ take l.name-index l.names
