use Rattle.std.proofs.lemmas.Result.{err_from_is_err_and}
use Rattle.entries.proofs.Reading.{late_call, no_call_session, call_fault}
use Rattle.entries.proofs.read.call_entry.Goals as goal

pub returns-then-now-gt-MAX_MOMENT : goal.returns-then-now-gt-MAX_MOMENT
returns-then-now-gt-MAX_MOMENT c = late_call c.args.bytes.now c.in-Some.now c.in-Some.rest.now c.in-Some.ensures.fits c.in-Some.ensures.some c.if-now-gt-MAX_MOMENT.true

pub returns-in_default-number_before : goal.returns-in_default-number_before
returns-in_default-number_before c = no_call_session c.args.bytes.now c.in-Some.now c.in-Some.rest.now c.in-Some.ensures.fits c.in-Some.ensures.some c.in_default-number_before.ensures.none

pub returns-in_err-event : goal.returns-in_err-event
returns-in_err-event c =
    let p = err_from_is_err_and c.from_residual.result c.from_residual.ensures.1 in
    rw (p.1, p.2) (call_fault c.args.bytes.now c.in-Some.now c.in-Some-number_before.session c.in-Some.rest.now c.in-Some-number_before.told.now c.in_err-event.field-0.0 c.in-Some.ensures.fits c.in-Some-number_before.ensures.fits c.in-Some.ensures.some c.in-Some-number_before.ensures.some c.in_err-event.ensures)
