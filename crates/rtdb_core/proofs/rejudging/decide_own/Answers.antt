use Rattle.std.proofs.Common.{arith}
use Rattle.rtdb_core.proofs.rejudging.decide_own.Goals as goal

pub returns-clause-fits : goal.returns-clause-fits
returns-clause-fits c = omega (arith, c.in_ok-decide_each.ensures.place, c.law.ensures, c.new-decisions.ensures.place)
