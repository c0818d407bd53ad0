use Rattle.std.proofs.Common.{map, drop}
use Rattle.expr_types.specs.HasSort.{HasSomeSort}
use Rattle.expr_places.specs.Places.{placed_of}
use Rattle.rules_reader.specs.Part.{texts}
use Rattle.rules_reader.specs.Spelled.{place_of, capture_names}
use Rattle.diagnosis.proofs.Faulty.{Passed}
use Rattle.diagnosis.proofs.blame.first_unsorted.Given as goal

abbrev pub invariant-loop-part : goal.invariant-loop-part
invariant-loop-part l = Passed (HasSomeSort (place_of l.rule.kind) (capture_names (texts l.rule.pattern))) (map placed_of l.parts) (map placed_of (drop l.part-index l.parts))
