use Rattle.std.proofs.Common.{option_map, map, sym, ap, ◌∙◌, refl}
use Rattle.std.specs.Borrow.{Bor}
use Rattle.tree_model.specs.Put.{location}
use Rattle.tree_model.specs.Tree.{Tree}
use Rattle.tree_model.specs.Write.{proposed}
use Rattle.path_capture.specs.Write.{tree_or_null}
use Rattle.judge.specs.Question.{Scene, scene_of}
use Rattle.judge.proofs.Coming.{is_proposed, tree_or_null-non_null}
use Rattle.rtdb_model.specs.State.{scene_at}
use Rattle.rtdb_model.specs.Step.{tree_with}
use Rattle.rtdb_model.proofs.Filling.{moment_is_whole}
use Rattle.request_explainer.specs.Asked.{asked_of}
use Rattle.rtdb_explain.proofs.Said.{same_said}
use Rattle.rtdb_explain.proofs.reasons.Step.writes.Goals as goal

pub overlay-requires-clause-moment : goal.overlay-requires-clause-moment
overlay-requires-clause-moment c = moment_is_whole c.args.self.stamp.now c.requires.moment

pub explain_writes-requires : goal.explain_writes-requires
explain_writes-requires c =
    ap tree_or_null c.in_ok-coming-2.ensures
    ∙ is_proposed c.tree.result (option_map (λ (node : Bor Tree). node.now) c.tree.result) c.in_ok-coming.coming c.args.writes.now c.args.self.stamp.now refl c.in_ok-coming.ensures
    ∙ (λ i. proposed ((ap tree_or_null c.tree.ensures.tree ∙ tree_or_null-non_null c.args.self.core.now.tree ∙ sym (ap (λ (scene : Scene). scene.old) c.requires.scene)) i) c.args.writes.now (sym (ap (λ (scene : Scene). scene.moment) c.requires.scene) i))

pub returns-clause-says : goal.returns-clause-says
returns-clause-says c =
    same_said (scene_of c.args.self.scene.now) (scene_at c.args.self.core.now c.args.self.stamp.now c.args.self.stamp.session)
    (tree_or_null c.in_ok-coming-2.coming.now) (tree_with c.args.self.core.now c.args.self.stamp.now c.args.writes.now)
    (map location c.args.writes.now) c.in_ok-found.found.verdict (map asked_of c.in_ok-found.found.rules.items)
    c.requires.scene
    (ap tree_or_null c.in_ok-coming-2.ensures
    ∙ is_proposed c.tree.result (option_map (λ (node : Bor Tree). node.now) c.tree.result) c.in_ok-coming.coming c.args.writes.now c.args.self.stamp.now refl c.in_ok-coming.ensures
    ∙ (λ i. proposed ((ap tree_or_null c.tree.ensures.tree ∙ tree_or_null-non_null c.args.self.core.now.tree) i) c.args.writes.now c.args.self.stamp.now))
    c.in_ok-found.ensures.verdict
    c.in_ok-found.ensures.rules
