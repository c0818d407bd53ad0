use Rattle.std.proofs.Common.{length}
use Rattle.diagnosis.proofs.shown.+digits.Given as goal

abbrev pub decreases-are_digits : goal.decreases-are_digits
decreases-are_digits l = length l.bytes.now
