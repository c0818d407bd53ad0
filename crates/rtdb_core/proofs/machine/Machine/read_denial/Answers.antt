use Rattle.std.proofs.Common.{option_map, ap, ◌∙◌}
use Rattle.std.proofs.lemmas.Result.{IfOk-weaker}
use Rattle.std.specs.Borrow.{Bor}
use Rattle.evaluator.specs.Asked.{asked_of}
use Rattle.listeners.specs.Query.{Query}
use Rattle.judge.specs.Question.{scene_of}
use Rattle.judge.specs.Judging.{read_verdict_of}
use Rattle.rtdb_core.specs.Working.Passages.{who_of}
use Rattle.rtdb_core.proofs.Refusing.{denied_so, read_is}
use Rattle.rtdb_core.proofs.machine.Machine.read_denial.Goals as goal

pub returns : goal.returns
returns c =
    IfOk-weaker c.read_denial.result _ _
    (λ names is. denied_so names
    ∙ read_is c.args.self.now c.args.now (who_of c.args.who) (scene_of c.in_ok-scene.scene.now) (asked_of c.in_ok-asked.asked.now) c.args.path.now (option_map (λ (query : Bor Query). query.now) c.args.query) (read_verdict_of names)
    (ap scene_of c.in_ok-scene.ensures ∙ c.scene.ensures) (ap asked_of c.in_ok-asked.ensures ∙ c.asked_for.ensures) is)
    c.read_denial.ensures
