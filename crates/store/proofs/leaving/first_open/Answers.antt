use Rattle.std.proofs.Common.{◌<◌, length, sym, ◌∙◌}
use Rattle.std.proofs.lemmas.Bool.{false≢true}
use Rattle.store.proofs.Steps.{first_is, none_is}
use Rattle.store.proofs.leaving.first_open.Goals as goal

pub returns-in_err-number-clause-none : goal.returns-in_err-number-clause-none
returns-in_err-number-clause-none c =
    rw c.from_residual.ensures
    (none_is c.args.core.now c.open_sessions.result.now.entries c.open_sessions.ensures (λ (some : 0 < length c.open_sessions.result.now.entries). false≢true (c.in_err-number.ensures.variant.1 some)))

pub returns-clause-some : goal.returns-clause-some
returns-clause-some c =
    let it = first_is c.args.core.now c.open_sessions.result.now.entries c.in_ok-number.number.now c.in_ok-number.session.now c.open_sessions.ensures c.in_ok-number.ensures.first in
    (it.0, it.1 ∙ sym c.is_leaving.ensures)
