use Rattle.std.proofs.Common.{length}
use Rattle.rules_reader.proofs.Cuts.{Goes}
use Rattle.rules_reader.proofs.plain_text.plain.Given as goal

abbrev pub invariant-loop-rest : goal.invariant-loop-rest
invariant-loop-rest l = Goes l.file l.text.items l.rest

abbrev pub decreases-loop-rest : goal.decreases-loop-rest
decreases-loop-rest l = length l.rest
