use Rattle.std.proofs.Common.{◌++◌}
use Rattle.std.specs.Prelude.{codes}
use Rattle.std.proofs.lemmas.Result.{err_from_is_err_and}
use Rattle.entries.specs.Entry.{Means, meaning_of}
use Rattle.entries.proofs.Reading.{no_session_number, bad_session, faulty}
use Rattle.entries.proofs.read.session_entry.Goals as goal

pub returns-in_default : goal.returns-in_default
returns-in_default c = no_session_number c.args.rest.now c.in_default.ensures.none

pub returns-in_err-is_leaving : goal.returns-in_err-is_leaving
returns-in_err-is_leaving c =
    let p = err_from_is_err_and c.from_residual.result c.from_residual.ensures.1 in
    rw (p.1, p.2) (faulty meaning_of (Means (codes "session " ++ c.args.rest.now)) _ c.in_err-is_leaving.field-0.0 c.in_err-is_leaving.ensures (bad_session c.args.rest.now c.in-Some.number c.in-Some.json.now c.in-Some.ensures.fits c.in-Some.ensures.some))
