use Rattle.std.proofs.Common.{length, ap, arith}
use Rattle.tree_model.proofs.Lawful.{path_length}
use Rattle.judge.specs.Working.Standing.{ask_of, path_of}
use Rattle.judge.proofs.Asking.{denied_along_granted, denied_along_denied}
use Rattle.judge.proofs.Tops.{stands_anew}
use Rattle.judge.proofs.judging.denial_along.Goals as goal

pub asked_along-requires-clause-here : goal.asked_along-requires-clause-here
asked_along-requires-clause-here c = stands_anew c.args.asking.now c.args.spot.now c.new-captures.result c.new-captures.ensures c.requires

pub asked_along-requires-clause-room : goal.asked_along-requires-clause-room
asked_along-requires-clause-room c =
    let none = ap length c.requires.root in
    let keys = ap length c.keys-keys.ensures.keys in
    let long = path_length c.args.path.now c.keys-keys.ensures.lawful in
    omega arith

pub returns-then-granted : goal.returns-then-granted
returns-then-granted c =
    denied_along_granted (ask_of c.args.asking.now) (path_of c.args.spot.now) c.args.path.now c.keys-keys.result.now c.in_ok-asked.asked.items c.asked_along.new.asked.items c.in_ok-granted.granted c.requires.root c.keys-keys.ensures.keys c.if-granted.true c.in_ok-granted.ensures

pub returns : goal.returns
returns c =
    denied_along_denied (ask_of c.args.asking.now) (path_of c.args.spot.now) c.args.path.now c.keys-keys.result.now c.in_ok-asked.asked.items c.asked_along.new.asked.items c.of_vec.result c.in_ok-granted.granted c.requires.root c.keys-keys.ensures.keys c.if-granted.false c.in_ok-asked.ensures.items c.of_vec.ensures c.in_ok-granted.ensures
