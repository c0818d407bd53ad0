use Rattle.std.proofs.Common.{arith}
use Rattle.std.proofs.lemmas.Grind.{common_steps}
use Rattle.expr_tokens.proofs.Texts.{step_plain, step_escape, step_smaller, stop_closes}
use Rattle.expr_tokens.proofs.escape.closing.Goals as goal
use Rattle.expr_tokens.proofs.escape.closing.Goals.{then-rest-lt1, in-len1-up+else-first-quote}

pub loop-rest-smaller-in-Some : goal.loop-rest-smaller-in-Some
loop-rest-smaller-in-Some c = step_smaller c.loop-rest.rest.now c.in-Some.field-0-0 c.in-Some.after.now (omega arith) c.in-Some.ensures

pub loop-rest-preserved-in-Some : goal.loop-rest-preserved-in-Some
loop-rest-preserved-in-Some c = step_escape c.args.quote c.args.bytes.now c.loop-rest.rest.now c.in-Some.field-0-0 c.in-Some.after.now c.loop-rest.invariant (omega arith) c.if-first-quote.true c.if-first-eq92.true c.in-Some.ensures

pub loop-rest-preserved : goal.loop-rest-preserved
loop-rest-preserved c = step_plain c.args.quote c.args.bytes.now c.loop-rest.rest.now c.loop-rest.invariant (omega arith) c.if-first-quote.true c.if-first-eq92.false

pub returns-else-is_empty-clause-closes : goal.returns-else-is_empty-clause-closes
returns-else-is_empty-clause-closes c = elim c.if-rest-lt1.branch [
  | then-rest-lt1 w ↦ absurd (grind (arith, common_steps))
  | in-len1-up+else-first-quote w ↦ stop_closes c.args.quote c.args.bytes.now c.loop-rest.rest.now c.loop-rest.invariant (omega arith) w.if-first-quote.false
]
