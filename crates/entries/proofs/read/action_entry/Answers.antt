use Rattle.std.proofs.Common.{◌++◌}
use Rattle.std.specs.Prelude.{codes}
use Rattle.std.proofs.lemmas.Result.{err_from_is_err_and}
use Rattle.entries.specs.Entry.{Means, meaning_of}
use Rattle.entries.proofs.Reading.{no_action_number, bad_action, faulty}
use Rattle.entries.proofs.read.action_entry.Goals as goal

pub returns-in_default : goal.returns-in_default
returns-in_default c = no_action_number c.args.rest.now c.in_default.ensures.none

pub returns-in_err-writes : goal.returns-in_err-writes
returns-in_err-writes c =
    let p = err_from_is_err_and c.from_residual.result c.from_residual.ensures.1 in
    rw (p.1, p.2) (faulty meaning_of (Means (codes "action " ++ c.args.rest.now)) _ c.in_err-writes.field-0.0 c.in_err-writes.ensures (bad_action c.args.rest.now c.in-Some.number c.in-Some.json.now c.in-Some.ensures.fits c.in-Some.ensures.some))
