use Rattle.std.proofs.Common.{length}
use Rattle.judge.proofs.placed.+walk.Given as goal

abbrev pub decreases-walk : goal.decreases-walk
decreases-walk l = length l.keys.now
