use Rattle.std.proofs.Common.{sym}
use Rattle.evaluator.proofs.Names.{no_limit}
use Rattle.evaluator.proofs.members.query_limit.Goals as goal

pub returns-in_default : goal.returns-in_default
returns-in_default c = sym (no_limit _ _ c.in_default.not-limitToFirst c.in_default.not-limitToLast)
