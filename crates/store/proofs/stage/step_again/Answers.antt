use Rattle.std.proofs.Common.{◌∙◌, ap, false, cond}
use Rattle.rtdb_laws.specs.Effects.{is_effective}
use Rattle.store.proofs.Making.{step_told}
use Rattle.store.proofs.stage.step_again.Goals as goal

pub returns : goal.returns
returns c =
    let reply = c.step-reply.result in
    step_told c.args.core.now c.step-reply.new.self c.args.now c.args.session c.args.event reply c.effect_of.result c.step-reply.ensures
    (c.changes_none-changes_none.ensures reply ∙ ap (λ b. cond b false (is_effective reply)) c.if-changes_none.false) c.effect_of.ensures
