use Rattle.std.proofs.Common.{Some, refl, ap, sym, subst}
use Rattle.path_capture.specs.Write.{tree_or_null}
use Rattle.tree_model.specs.Tree.{IsLawful}
use Rattle.rules_reader.specs.declared.kind.Kind.TheVariants.{Write, Validate}
use Rattle.evaluator.specs.Value.{Snapshot}
use Rattle.evaluator.specs.declared.env.Access.TheVariants.{Writes}
use Rattle.judge.specs.Question.{scene_of}
use Rattle.judge.specs.declared.spot.Asking.{Asking}
use Rattle.judge.specs.Working.Locations.{paths}
use Rattle.judge.specs.Failing.{IsValid}
use Rattle.judge.specs.Judging.{IsWriteVerdict, MayWriteAll}
use Rattle.judge.proofs.Tops.{writes_root, stands_for, verdict_some, verdict_none, verdict_granted}
use Rattle.judge.proofs.judging.judge_ordered.Goals as goal

pub at_root-requires-clause-root : goal.at_root-requires-clause-root
at_root-requires-clause-root c = writes_root c.in_ok-root.root.now _ c.in_ok-root.ensures

pub returns-in-Some : goal.returns-in-Some
returns-in-Some c =
    let scene = scene_of c.args.scene.now in
    let t = c.in_ok-root.root.now.0 in
    let ls = paths c.args.locations.now in
    verdict_some scene t (tree_or_null c.args.coming.now) ls (MayWriteAll scene t ls) c.in_ok-refused.refused c.in-Some.verdict (ap (λ (s : Snapshot). s.0) c.in_ok-root.ensures) c.in-Some.is c.in_ok-refused.ensures.denied

pub validate_denied-requires : goal.validate_denied-requires
validate_denied-requires c =
    let scene = scene_of c.args.scene.now in
    let t = c.in_ok-root.root.now.0 in
    let ls = paths c.args.locations.now in
    let asking : Asking = record { arena = c.args.arena; scene = c.args.scene; access = Writes c.in_ok-root.root; kind = Write; spare = Some c.new-spare.result } in
    let validating : Asking = record { arena = c.args.arena; scene = c.args.scene; access = Writes c.in_ok-root.root; kind = Validate; spare = Some c.new-spare.result } in
    record {
      root = stands_for asking validating c.in_ok-spot.spot refl tt c.in_ok-spot.ensures;
      kind = refl;
      lawful = subst IsLawful (sym (ap (λ (s : Snapshot). s.0) c.in_ok-root.ensures)) c.law_of.ensures;
      sorted = c.requires;
      granted = verdict_none (MayWriteAll scene t ls) (IsWriteVerdict scene t ls) c.in_ok-refused.refused c.in_default.is c.in_ok-refused.ensures.denied;
      none = c.in_ok-refused.ensures.back;
    }

pub returns-in-Some-failed : goal.returns-in-Some-failed
returns-in-Some-failed c =
    let scene = scene_of c.args.scene.now in
    let t = c.in_ok-root.root.now.0 in
    let ls = paths c.args.locations.now in
    verdict_some scene t (tree_or_null c.args.coming.now) ls (IsValid scene t ls) c.in_ok-failed.failed c.in-Some-failed.verdict (ap (λ (s : Snapshot). s.0) c.in_ok-root.ensures) c.in-Some-failed.is c.in_ok-failed.ensures

pub returns : goal.returns
returns c =
    let scene = scene_of c.args.scene.now in
    let t = c.in_ok-root.root.now.0 in
    let ls = paths c.args.locations.now in
    verdict_granted scene t (tree_or_null c.args.coming.now) ls (ap (λ (s : Snapshot). s.0) c.in_ok-root.ensures)
    (verdict_none (MayWriteAll scene t ls) (IsWriteVerdict scene t ls) c.in_ok-refused.refused c.in_default.is c.in_ok-refused.ensures.denied)
    (verdict_none (IsValid scene t ls) (IsWriteVerdict scene t ls) c.in_ok-failed.failed c.in_default-failed.is c.in_ok-failed.ensures)
