use Rattle.judge.proofs.Reaching.{granted_below}
use Rattle.judge.proofs.laws.a_grant_reaches_down.Goals as goal

pub returns : goal.returns
returns c = granted_below
