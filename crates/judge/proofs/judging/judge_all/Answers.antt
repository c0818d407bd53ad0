use Rattle.std.proofs.Common.{List, map, subst, sym, ap}
use Rattle.std.specs.Borrow.{Bor}
use Rattle.std.proofs.lemmas.Result.{IfOk-weaker}
use Rattle.std.proofs.lemmas.List.Sorted.{IsPermutation-map}
use Rattle.std.specs.List.Sorted.{IsPermutation}
use Rattle.path_capture.specs.Write.{tree_or_null}
use Rattle.tree_model.specs.Path.{Path}
use Rattle.tree_model.specs.Put.{location}
use Rattle.judge.specs.Question.{scene_of}
use Rattle.judge.specs.Working.Locations.{paths}
use Rattle.judge.proofs.Tops.{verdict_in_any_order}
use Rattle.judge.proofs.judging.judge_all.Goals as goal

pub returns : goal.returns
returns c =
    let scene = scene_of c.args.scene.now in
    let written = map location c.args.writes.now in
    let sorted = IsPermutation-map (λ (l : Bor Path). l.now) c.in_ok-locations.locations.items c.sort.new.locations.items c.sort.ensures.permutation in
    let order : IsPermutation written (paths c.as_slice.result.now) =
    subst (IsPermutation written) (ap paths (sym c.as_slice.ensures.value)) (subst (λ (xs : List Path). IsPermutation xs (paths c.sort.new.locations.items)) c.in_ok-locations.ensures sorted) in
    IfOk-weaker c.judge_ordered.result _ _
    (λ v h. (verdict_in_any_order scene (tree_or_null c.args.coming.now) written (paths c.as_slice.result.now) v order h))
    c.judge_ordered.ensures
