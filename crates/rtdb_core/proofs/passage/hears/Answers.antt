use Rattle.std.proofs.Common.{option_map}
use Rattle.std.specs.Borrow.{Bor}
use Rattle.std.proofs.lemmas.Result.{IfOk-weaker}
use Rattle.evaluator.specs.Asked.{asked_of}
use Rattle.judge.specs.Question.{scene_of}
use Rattle.listeners.specs.Query.{Query}
use Rattle.rtdb_core.specs.Working.Fates.{scene_by}
use Rattle.rtdb_core.specs.Working.Passages.{tree_after, who_of}
use Rattle.rtdb_core.proofs.Hearing.{heard_is}
use Rattle.rtdb_core.proofs.passage.hears.Goals as goal

pub returns : goal.returns
returns c =
    let p = c.args.passage.now in
    IfOk-weaker c.may_read.result _ _ (λ granted. heard_is (scene_by p.rules.now (tree_after p) p.moment (who_of c.args.who)) (scene_of c.scene-scene.result) (asked_of c.asked_for-asked.result) c.args.listener.now.path.now (option_map (λ (query : Bor Query). query.now) c.args.listener.now.query) granted c.scene-scene.ensures c.asked_for-asked.ensures) c.may_read.ensures
