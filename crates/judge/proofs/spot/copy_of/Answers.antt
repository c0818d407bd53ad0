use Rattle.std.proofs.Common.{◌≡◌, suc, ◌+◌, List, ◌∷◌, [], ◌++◌, take, Some, option_map, sym, ap, ◌∙◌, arith}
use Rattle.std.specs.List.{slice_get}
use Rattle.std.proofs.Math.Seq.{take-suc}
use Rattle.std.proofs.lemmas.Option.{get_or_from_slice_get, slice_get_within}
use Rattle.path_capture.specs.Captures.{bound}
use Rattle.judge.proofs.spot.copy_of.Goals as goal

pub loop-i-preserved : goal.loop-i-preserved
loop-i-preserved c =
    let xs = c.args.captures.now in
    let i = c.loop-i.i in
    let x = bound c.in-Some.binding.now in
    let at : slice_get xs i ≡ Some x = sym c.part.ensures ∙ ap (option_map (λ b. bound b.now)) c.in-Some.is in
    let further : i + 1 ≡ suc i = omega arith in
    c.in_ok-push.ensures.ok
    ∙ ap (λ ys. ys ++ x ∷ []) c.loop-i.invariant
    ∙ ap (λ y. take i xs ++ y ∷ []) (sym (get_or_from_slice_get xs i x x at))
    ∙ sym (take-suc xs i x (slice_get_within xs i x at))
    ∙ ap (λ n. take n xs) (sym further)
