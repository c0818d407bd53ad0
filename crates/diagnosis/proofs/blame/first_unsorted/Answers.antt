use Rattle.std.proofs.Common.{arith, List, map, subst}
use Rattle.std.proofs.lemmas.Grind.{common_steps}
use Rattle.expr_types.specs.HasSort.{HasSomeSort}
use Rattle.expr_places.specs.Places.{Placed, placed_of}
use Rattle.rules_reader.specs.Part.{texts}
use Rattle.rules_reader.specs.Spelled.{place_of, capture_names}
use Rattle.diagnosis.proofs.Faulty.{Passed, next, left_is}
use Rattle.diagnosis.proofs.blame.first_unsorted.Goals as goal

pub loop-part-preserved : goal.loop-part-preserved
loop-part-preserved c =
    let left = left_is c.args.parts.now c.loop-part.part-index c.part-item.result (grind (arith, common_steps)) (grind (arith, common_steps)) in
    next (placed_of c.part-item.result)
    (subst (λ (ps : List Placed). Passed (HasSomeSort (place_of c.args.rule.now.kind) (capture_names (texts c.args.rule.now.pattern))) (map placed_of c.args.parts.now) ps) left c.loop-part.invariant)
    (c.in_ok-has_sort.ensures.yes (grind (arith, common_steps)))
