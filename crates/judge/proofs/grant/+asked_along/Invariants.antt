use Rattle.std.proofs.Common.{length}
use Rattle.judge.proofs.grant.+asked_along.Given as goal

abbrev pub decreases-asked_along : goal.decreases-asked_along
decreases-asked_along l = length l.keys.now
