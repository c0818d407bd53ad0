use Rattle.std.proofs.Common.{map, sym, subst}
use Rattle.tree_model.specs.Tree.{Tree}
use Rattle.tree_model.specs.Put.{location}
use Rattle.judge.specs.Question.{scene_of}
use Rattle.judge.specs.Judging.{IsWriteVerdict}
use Rattle.request_explainer.proofs.requests.explain_writes.Goals as goal

pub returns-clause-verdict : goal.returns-clause-verdict
returns-clause-verdict c = subst (λ (t : Tree). IsWriteVerdict (scene_of c.args.scene.now) t (map location c.args.writes.now) c.in_ok-verdict.verdict) (sym c.requires) c.in_ok-verdict.ensures
