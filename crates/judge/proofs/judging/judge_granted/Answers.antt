use Rattle.std.proofs.Common.{[], ◌∷◌, subst}
use Rattle.std.proofs.lemmas.Result.{IfOk-weaker}
use Rattle.path_capture.specs.Write.{tree_or_null}
use Rattle.tree_model.specs.Path.{Path}
use Rattle.judge.specs.Question.{scene_of}
use Rattle.judge.specs.Judging.{IsWriteVerdict}
use Rattle.judge.proofs.judging.judge_granted.Goals as goal

pub returns : goal.returns
returns c =
    IfOk-weaker c.validated.result _ _
    (λ v h. subst (λ (p : Path). IsWriteVerdict (scene_of c.args.scene.now) (tree_or_null c.args.coming.now) (p ∷ []) v) c.at.ensures.path h)
    c.validated.ensures
