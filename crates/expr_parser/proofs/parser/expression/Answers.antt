use Rattle.std.proofs.Common.{◌≡◌, ap, length, arith}
use Rattle.std.proofs.lemmas.Grind.{common_steps}
use Rattle.std.proofs.lemmas.Result.{err_from_is_err_and}
use Rattle.expr_parser.specs.View.{view}
use Rattle.expr_parser.proofs.Top.{is_found, is_only, no_refusal, is_refused, left_over}
use Rattle.expr_parser.proofs.parser.expression.Goals as goal

pub returns-in_err-rest-clause-only : goal.returns-in_err-rest-clause-only
returns-in_err-rest-clause-only c = λ x h.
    let p = err_from_is_err_and c.from_residual.result c.from_residual.ensures.1 in
    rw (p.1, p.2) (no_refusal c.args.tokens.now c.in_err-rest.field-0.0 x c.in_err-rest.ensures.gives h)

pub returns-in_err-rest-clause-refused : goal.returns-in_err-rest-clause-refused
returns-in_err-rest-clause-refused c =
    let p = err_from_is_err_and c.from_residual.result c.from_residual.ensures.1 in
    rw (p.1, p.2) (is_refused c.args.tokens.now c.in_err-rest.field-0.0 c.in_err-rest.ensures.gives)

pub returns-then-not-is_empty-clause-only : goal.returns-then-not-is_empty-clause-only
returns-then-not-is_empty-clause-only c = λ x h.
    let p = is_only c.args.tokens.now (view c.whole.new.found) x c.in_ok-rest.rest.now c.in_ok-rest.ensures.gives h in
    let e : length c.in_ok-rest.rest.now ≡ 0 = ap length p.1 in
    absurd (grind (arith, common_steps, e))

pub returns-then-not-is_empty-clause-refused : goal.returns-then-not-is_empty-clause-refused
returns-then-not-is_empty-clause-refused c = left_over c.args.tokens.now (view c.whole.new.found) c.in_ok-rest.rest.now c.in_ok-rest.ensures.gives (λ e. grind (arith, common_steps, e))

pub returns-clause-found : goal.returns-clause-found
returns-clause-found c = is_found c.args.tokens.now (view c.whole.new.found) c.in_ok-rest.rest.now c.in_ok-rest.ensures.gives (grind (arith, common_steps))

pub returns-clause-only : goal.returns-clause-only
returns-clause-only c = λ x h. (is_only c.args.tokens.now (view c.whole.new.found) x c.in_ok-rest.rest.now c.in_ok-rest.ensures.gives h).0
