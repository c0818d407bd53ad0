use Rattle.std.proofs.Common.{[], List, ◌∷◌, sym, ap, subst, ◌∙◌}
use Rattle.path_capture.specs.Write.{tree_or_null}
use Rattle.tree_model.specs.Put.{location}
use Rattle.rules_reader.specs.Place.{HasOneCapture}
use Rattle.judge.specs.Question.{Scene, scene_of}
use Rattle.judge.specs.Judging.{MayWriteAll, IsWriteVerdict}
use Rattle.judge.specs.declared.verdict.Named.{Named}
use Rattle.judge.specs.declared.verdict.Verdict.TheVariants.{WriteDenied}
use Rattle.rtdb_core.specs.Working.Passages.{who_of}
use Rattle.rtdb_core.proofs.Refusing.{match_none, set_judged, set_denied}
use Rattle.rtdb_core.proofs.machine.Machine.set_denial.Goals as goal

pub returns-in-Some : goal.returns-in-Some
returns-in-Some c =
    let scene_is = ap scene_of c.in_ok-scene.ensures ∙ c.scene.ensures in
    set_denied c.args.self.now c.args.now (who_of c.args.who) (scene_of c.in_ok-scene.scene.now) (tree_or_null c.args.coming.now) c.args.write.now scene_is c.requires.proposes c.in-Some.names c.in_ok-names.field-0 _ c.at.result.now c.at.ensures.path
    (subst (λ (s : Scene). HasOneCapture s.book) (sym scene_is) c.rules.ensures.one) c.in-Some.is c.in_ok-names.ensures

pub granted_denial-requires-clause-one : goal.granted_denial-requires-clause-one
granted_denial-requires-clause-one c = subst (λ (s : Scene). HasOneCapture s.book) (sym (ap scene_of c.in_ok-scene.ensures ∙ c.scene.ensures)) c.rules.ensures.one

pub granted_denial-requires-clause-granted : goal.granted_denial-requires-clause-granted
granted_denial-requires-clause-granted c =
    match_none (MayWriteAll (scene_of c.in_ok-scene.scene.now) (tree_or_null c.args.coming.now) (location c.args.write.now ∷ []))
    (λ (all : List Named). IsWriteVerdict (scene_of c.in_ok-scene.scene.now) (tree_or_null c.args.coming.now) (location c.args.write.now ∷ []) (WriteDenied (location c.args.write.now) all))
    c.in_ok-names.field-0 c.in_default.is c.in_ok-names.ensures

pub returns : goal.returns
returns c =
    c.other.ensures
    ∙ c.in_ok-granted_denial.ensures
    ∙ set_judged c.args.self.now c.args.now (who_of c.args.who) (scene_of c.in_ok-scene.scene.now) (tree_or_null c.args.coming.now) c.args.write.now (ap scene_of c.in_ok-scene.ensures ∙ c.scene.ensures) c.requires.proposes
