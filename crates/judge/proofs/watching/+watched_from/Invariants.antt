use Rattle.std.proofs.Common.{length}
use Rattle.judge.proofs.watching.+watched_from.Given as goal

abbrev pub decreases-watched_from : goal.decreases-watched_from
decreases-watched_from l = length l.rest.now
