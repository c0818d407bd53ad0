use Rattle.std.proofs.Common.{[], ◌∷◌, ap, ◌∙◌}
use Rattle.path_capture.specs.Write.{tree_or_null}
use Rattle.tree_model.specs.Put.{location}
use Rattle.judge.specs.Question.{scene_of}
use Rattle.judge.proofs.Verdicts.{one_verdict}
use Rattle.rtdb_model.specs.Step.{denial}
use Rattle.rtdb_core.proofs.machine.Machine.granted_denial.Goals as goal

pub returns : goal.returns
returns c =
    c.denial.ensures
    ∙ ap denial (one_verdict (scene_of c.args.scene.now) (tree_or_null c.args.coming.now) (location c.args.write.now ∷ []) c.in_ok-verdict.verdict c.requires.one c.in_ok-verdict.ensures)
