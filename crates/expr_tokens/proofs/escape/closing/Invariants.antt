use Rattle.std.proofs.Common.{length}
use Rattle.expr_tokens.proofs.Texts.{IsRead}
use Rattle.expr_tokens.proofs.escape.closing.Given as goal

abbrev pub invariant-loop-rest : goal.invariant-loop-rest
invariant-loop-rest l = IsRead l.quote l.bytes l.rest

abbrev pub decreases-loop-rest : goal.decreases-loop-rest
decreases-loop-rest l = length l.rest
