use Rattle.std.proofs.Common.{◌∙◌, ap}
use Rattle.judge.specs.Question.{scene_of}
use Rattle.rtdb_model.specs.Step.{denial}
use Rattle.rtdb_core.specs.Working.Passages.{who_of}
use Rattle.rtdb_core.proofs.Refusing.{verdict_is}
use Rattle.rtdb_core.proofs.machine.Machine.update_denial.Goals as goal

pub returns : goal.returns
returns c =
    c.other.ensures
    ∙ c.denial.ensures
    ∙ ap denial (verdict_is c.args.self.now c.args.now (who_of c.args.who) (scene_of c.in_ok-scene.scene.now) c.args.writes.now c.in_ok-verdict.verdict (ap scene_of c.in_ok-scene.ensures ∙ c.scene.ensures) c.rules.ensures.one c.in_ok-verdict.ensures)
