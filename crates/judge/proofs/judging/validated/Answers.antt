use Rattle.std.proofs.Common.{ap, sym, subst}
use Rattle.path_capture.specs.Write.{tree_or_null}
use Rattle.tree_model.specs.Tree.{Tree}
use Rattle.evaluator.specs.Value.{Snapshot}
use Rattle.judge.specs.Question.{scene_of}
use Rattle.judge.specs.Working.Locations.{paths}
use Rattle.judge.specs.Failing.{IsValid}
use Rattle.judge.specs.Judging.{IsWriteVerdict, MayWriteAll}
use Rattle.judge.proofs.Tops.{verdict_some, verdict_none, verdict_granted}
use Rattle.judge.proofs.judging.validated.Goals as goal

pub returns-in-Some : goal.returns-in-Some
returns-in-Some c =
    let scene = scene_of c.args.scene.now in
    let t = c.in_ok-top.top.now.0 in
    let ls = paths c.args.locations.now in
    verdict_some scene t (tree_or_null c.args.coming.now) ls (IsValid scene t ls) c.in_ok-failed.failed c.in-Some.verdict (ap (λ (s : Snapshot). s.0) c.in_ok-top.ensures) c.in-Some.is c.in_ok-failed.ensures

pub returns : goal.returns
returns c =
    let scene = scene_of c.args.scene.now in
    let t = c.in_ok-top.top.now.0 in
    let ls = paths c.args.locations.now in
    let same = ap (λ (s : Snapshot). s.0) c.in_ok-top.ensures in
    verdict_granted scene t (tree_or_null c.args.coming.now) ls same
    (subst (λ (u : Tree). MayWriteAll scene u ls) (sym same) c.requires.granted)
    (verdict_none (IsValid scene t ls) (IsWriteVerdict scene t ls) c.in_ok-failed.failed c.in-None.is c.in_ok-failed.ensures)
