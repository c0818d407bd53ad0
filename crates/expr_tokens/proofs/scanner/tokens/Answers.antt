use Rattle.std.proofs.lemmas.Result.{err_from_is_err_and}
use Rattle.expr_tokens.proofs.Whole.{one_list, no_list, same_fault, spelled_no_fault}
use Rattle.expr_tokens.proofs.scanner.tokens.Goals as goal

pub returns-in_err-scan-clause-only : goal.returns-in_err-scan-clause-only
returns-in_err-scan-clause-only c = λ us h.
    let p = err_from_is_err_and c.from_residual.result c.from_residual.ensures.1 in
    rw (p.1, p.2) (no_list c.args.text.now c.in_err-scan.field-0.0 us c.in_err-scan.ensures.fault h)

pub returns-in_err-scan-clause-earliest : goal.returns-in_err-scan-clause-earliest
returns-in_err-scan-clause-earliest c = λ fault h.
    let p = err_from_is_err_and c.from_residual.result c.from_residual.ensures.1 in
    rw (p.1, p.2) (same_fault c.args.text.now c.in_err-scan.field-0.0 fault c.in_err-scan.ensures.fault h)

pub returns-clause-only : goal.returns-clause-only
returns-clause-only c = λ us h. one_list c.args.text.now c.in_ok-scan.field-0.tokens.items us c.in_ok-scan.ensures.found h

pub returns-clause-earliest : goal.returns-clause-earliest
returns-clause-earliest c = λ fault h. spelled_no_fault c.args.text.now c.in_ok-scan.field-0.tokens.items fault c.in_ok-scan.ensures.found h
