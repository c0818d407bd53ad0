use Rattle.judge.proofs.Depending.{may_read_same}
use Rattle.judge.proofs.laws.what_a_read_depends_on.Goals as goal

pub returns : goal.returns
returns c one other asked path place watched book who stands = may_read_same one other asked path place book who stands watched
