use Rattle.std.proofs.Common.{subst}
use Rattle.rtdb_model.specs.declared.event.Event.{Event}
use Rattle.rtdb_model.specs.Step.{Step}
use Rattle.rtdb_model.proofs.Filling.{step_filled}
use Rattle.rtdb_core.proofs.database.Core.step.Goals as goal

pub returns : goal.returns
returns c =
    step_filled c.args.self.now c.args.now c.args.session c.args.event c.step_filled.result c.step_filled.new.self
    (subst (λ (e : Event). Step c.args.self.now c.args.now c.args.session e c.step_filled.result c.step_filled.new.self) c.fill.ensures.filled c.step_filled.ensures)
