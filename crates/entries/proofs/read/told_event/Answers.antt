use Rattle.std.proofs.Common.{sym, ◌∙◌}
use Rattle.std.proofs.lemmas.Result.{err_from_is_err_and}
use Rattle.entries.specs.Entry.{Tells}
use Rattle.entries.specs.Working.Telling.{Told}
use Rattle.entries.proofs.Reading.{bad_sign_in, sent_told, faulty}
use Rattle.entries.proofs.read.told_event.Goals as goal

pub returns-in_err-who : goal.returns-in_err-who
returns-in_err-who c =
    let p = err_from_is_err_and c.from_residual.result c.from_residual.ensures.1 in
    rw (p.1, p.2) (faulty (λ (e : Told). e) (λ (e : Told). Tells c.args.stamp c.args.told.now e.0 e.1) _ c.in_err-who.field-0.0 c.in_err-who.ensures (bad_sign_in c.args.stamp c.args.told.now c.in-Some-behind.json.now c.in-Some-behind.ensures.some))

pub returns : goal.returns
returns c = sent_told c.args.stamp c.args.told.now c.sent_event.result (sym c.event_named.ensures ∙ c.in_default.is) c.in_default-behind.ensures.none c.sent_event.ensures
