use Rattle.std.proofs.Common.{length}
use Rattle.judge.proofs.grant.+granted_along.Given as goal

abbrev pub decreases-granted_along : goal.decreases-granted_along
decreases-granted_along l = length l.keys.now
