use Rattle.std.proofs.Common.{arith}
use Rattle.expr_tokens.proofs.Runs.{digit_too_large}
use Rattle.expr_tokens.proofs.front.value_of.Goals as goal

pub returns-then-value-gt-MAX_NUMBER-clause-none : goal.returns-then-value-gt-MAX_NUMBER-clause-none
returns-then-value-gt-MAX_NUMBER-clause-none c = digit_too_large c.loop-digit.value c.args.digits.now c.loop-digit.digit-index c.loop-digit-test.true c.loop-digit.invariant.same (omega arith)
