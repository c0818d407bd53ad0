use Rattle.std.proofs.lemmas.Result.{IfOk-weaker}
use Rattle.evaluator.specs.Asked.{asked_of}
use Rattle.judge.specs.Question.{scene_of}
use Rattle.judge.specs.declared.spot.Asking.{Asking}
use Rattle.judge.proofs.Tops.{read_along}
use Rattle.judge.proofs.judging.read_denial.Goals as goal

pub returns : goal.returns
returns c =
    let asking : Asking = c.reading-asking.result in
    IfOk-weaker c.denial_along.result _ _
    (λ names is. read_along asking c.in_ok-spot.spot (scene_of c.args.scene.now) (asked_of c.args.asked.now) c.args.path.now names c.reading-asking.ensures.question c.reading-asking.ensures.kind c.in_ok-spot.ensures is)
    c.denial_along.ensures
