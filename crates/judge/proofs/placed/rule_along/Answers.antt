use Rattle.std.proofs.Common.{◌≡◌, ◌++◌, None, subst}
use Rattle.tree_model.specs.Path.{Path}
use Rattle.judge.specs.Tests.{answer_at}
use Rattle.judge.specs.Placed.{path_by}
use Rattle.judge.specs.Working.Standing.{IsReached, path_of, question_of}
use Rattle.judge.proofs.Stating.{none_stands}
use Rattle.judge.proofs.placed.rule_along.Goals as goal

pub returns-then-not-there : goal.returns-then-not-there
returns-then-not-there c =
    let q = question_of c.args.asking.now in
    let path = path_by c.args.keys.now in
    let reached = subst (IsReached c.args.asking.now (path_of c.in_ok-spot.spot ++ path) c.walk.new.spot c.walk.new.captures) c.if-not-there.true c.in_ok-there.ensures in
    none_stands q c.args.asking.now.kind path (subst (λ (p : Path). answer_at q c.args.asking.now.kind (p ++ path) ≡ None) c.in_ok-spot.ensures.root reached)
