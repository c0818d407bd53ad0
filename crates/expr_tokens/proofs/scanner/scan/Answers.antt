use Rattle.std.proofs.Common.{◌-◌, sym, subst, length, ℕ, inr, arith}
use Rattle.std.proofs.lemmas.Grind.{common_steps}
use Rattle.expr_tokens.specs.declared.fault.ExprFault.{ExprFault}
use Rattle.expr_tokens.specs.Faults.{IsEarliest}
use Rattle.expr_tokens.proofs.Whole.{kept_start, kept_within, kept_next, kept_smaller, kept_long, kept_fault}
use Rattle.expr_tokens.proofs.scanner.scan.Goals as goal

pub loop-rest-init : goal.loop-rest-init
loop-rest-init c = record {
  kept = rw (c.in_ok-tokens.ensures.items, c.in_ok-places.ensures.items, c.past_blanks-rest.ensures) (kept_start c.args.text.now);
  utf8 = c.past_blanks-rest.utf8;
}

pub overflow_sub-place : goal.overflow_sub-place
overflow_sub-place c = kept_within c.args.text.now c.loop-rest.tokens.items c.loop-rest.places.items c.loop-rest.rest.now c.loop-rest.after_dot c.loop-rest.invariant.kept

pub front-requires-clause-fits : goal.front-requires-clause-fits
front-requires-clause-fits c =
    let k = kept_within c.args.text.now c.loop-rest.tokens.items c.loop-rest.places.items c.loop-rest.rest.now c.loop-rest.after_dot c.loop-rest.invariant.kept in
    omega arith

pub loop-rest-preserved : goal.loop-rest-preserved
loop-rest-preserved c =
    let k = kept_within c.args.text.now c.loop-rest.tokens.items c.loop-rest.places.items c.loop-rest.rest.now c.loop-rest.after_dot c.loop-rest.invariant.kept in
    let place : ℕ = length c.args.text.now - length c.loop-rest.rest.now in
    let n = kept_next c.args.text.now c.loop-rest.tokens.items c.loop-rest.places.items c.loop-rest.rest.now c.loop-rest.after_dot c.in-Ok.found.0 c.in-Ok.found.1.now (length c.args.text.now - length c.loop-rest.rest.now) c.loop-rest.invariant.kept c.in-Ok.ensures.ok (omega arith) in
    record {
      kept = rw (c.in_ok-push.ensures.items, c.in_ok-push-2.ensures.items, c.past_blanks-rest-in-loop-rest.ensures, c.is_dot-after_dot.ensures) n;
      utf8 = c.past_blanks-rest-in-loop-rest.utf8;
    }

pub returns-then-place-ge-MAX_EXPRESSION_BYTES-clause-fault : goal.returns-then-place-ge-MAX_EXPRESSION_BYTES-clause-fault
returns-then-place-ge-MAX_EXPRESSION_BYTES-clause-fault c =
    let k = kept_within c.args.text.now c.loop-rest.tokens.items c.loop-rest.places.items c.loop-rest.rest.now c.loop-rest.after_dot c.loop-rest.invariant.kept in
    inr (subst (λ (f : ExprFault). IsEarliest c.args.text.now f) (sym c.too_long.ensures)
    (kept_long c.args.text.now c.loop-rest.tokens.items c.loop-rest.places.items c.loop-rest.rest.now c.loop-rest.after_dot (length c.args.text.now - length c.loop-rest.rest.now) c.loop-rest.invariant.kept (omega arith) (grind (arith, common_steps)) (grind (arith, common_steps))))

pub returns-in-Err-clause-fault : goal.returns-in-Err-clause-fault
returns-in-Err-clause-fault c =
    let k = kept_within c.args.text.now c.loop-rest.tokens.items c.loop-rest.places.items c.loop-rest.rest.now c.loop-rest.after_dot c.loop-rest.invariant.kept in
    inr (subst (λ (f : ExprFault). IsEarliest c.args.text.now f) (sym c.capped.ensures)
    (kept_fault c.args.text.now c.loop-rest.tokens.items c.loop-rest.places.items c.loop-rest.rest.now c.loop-rest.after_dot (length c.args.text.now - length c.loop-rest.rest.now) c.in-Err.fault c.loop-rest.invariant.kept (omega arith) (grind (arith, common_steps)) c.in-Err.ensures.err))

pub loop-rest-smaller : goal.loop-rest-smaller
loop-rest-smaller c = rw c.past_blanks-rest-in-loop-rest.ensures (kept_smaller c.loop-rest.after_dot c.loop-rest.rest.now c.in-Ok.found.0 c.in-Ok.found.1.now c.in-Ok.ensures.ok)

pub returns-then-text-gt-MAX_EXPRESSION_BYTES-clause-fault : goal.returns-then-text-gt-MAX_EXPRESSION_BYTES-clause-fault
returns-then-text-gt-MAX_EXPRESSION_BYTES-clause-fault c =
    let k = kept_within c.args.text.now c.loop-rest.tokens.items c.loop-rest.places.items c.loop-rest.rest.now c.loop-rest.after_dot c.loop-rest.invariant.kept in
    inr (subst (λ (f : ExprFault). IsEarliest c.args.text.now f) (sym c.too_long-then-text-gt-MAX_EXPRESSION_BYTES.ensures)
    (kept_long c.args.text.now c.loop-rest.tokens.items c.loop-rest.places.items c.loop-rest.rest.now c.loop-rest.after_dot (length c.args.text.now) c.loop-rest.invariant.kept (grind (arith, common_steps)) (grind (arith, common_steps)) (grind (arith, common_steps))))
