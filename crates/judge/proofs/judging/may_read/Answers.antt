use Rattle.std.proofs.Common.{length, ap, ◌∙◌, arith}
use Rattle.std.proofs.lemmas.Result.{IfOk-weaker}
use Rattle.evaluator.specs.Asked.{asked_of}
use Rattle.tree_model.proofs.Lawful.{path_length}
use Rattle.judge.specs.Question.{scene_of}
use Rattle.judge.specs.declared.spot.Asking.{Asking}
use Rattle.judge.specs.Working.Standing.{ask_of, path_of}
use Rattle.judge.specs.Working.Refused.{granted_from}
use Rattle.judge.proofs.Tops.{stands_anew, may_read_answer}
use Rattle.judge.proofs.judging.may_read.Goals as goal

pub granted_along-requires-clause-here : goal.granted_along-requires-clause-here
granted_along-requires-clause-here c =
    let asking : Asking = c.reading-asking.result in
    stands_anew asking c.in_ok-spot.spot c.new-captures.result c.new-captures.ensures c.in_ok-spot.ensures

pub granted_along-requires-clause-room : goal.granted_along-requires-clause-room
granted_along-requires-clause-room c =
    let none = ap length c.in_ok-spot.ensures.root in
    let keys = ap length c.keys.ensures.keys in
    let long = path_length c.args.path.now c.keys.ensures.lawful in
    omega arith

pub returns : goal.returns
returns c =
    let asking : Asking = c.reading-asking.result in
    IfOk-weaker c.granted_along.result _ _ (λ found is. may_read_answer asking c.in_ok-spot.spot (scene_of c.args.scene.now) (asked_of c.args.asked.now) c.args.path.now found c.reading-asking.ensures.question c.reading-asking.ensures.kind c.in_ok-spot.ensures (is ∙ ap (granted_from (ask_of asking) (path_of c.in_ok-spot.spot)) c.keys.ensures.keys)) c.granted_along.ensures
