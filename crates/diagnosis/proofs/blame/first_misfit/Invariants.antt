use Rattle.std.proofs.Common.{map, drop}
use Rattle.expr_types.specs.HasSort.{HasValue}
use Rattle.expr_places.specs.Places.{placed_of}
use Rattle.rules_reader.specs.Part.{texts}
use Rattle.rules_reader.specs.Spelled.{place_of, capture_names}
use Rattle.diagnosis.proofs.Faulty.{Passed}
use Rattle.diagnosis.proofs.blame.first_misfit.Given as goal

abbrev pub invariant-loop-part : goal.invariant-loop-part
invariant-loop-part l = Passed (HasValue (place_of l.rule.kind) (capture_names (texts l.rule.pattern))) (map placed_of l.parts) (map placed_of (drop l.part-index l.parts))
