use Rattle.std.proofs.Common.{drop}
use Rattle.rules_reader.specs.Part.{texts}
use Rattle.rules_reader.proofs.Ahead.{UsedAhead}
use Rattle.rules_reader.proofs.shape.is_used.Given as goal

abbrev pub invariant-loop-i : goal.invariant-loop-i
invariant-loop-i l = UsedAhead l.text (drop l.i (texts l.pattern)) (texts l.pattern)
