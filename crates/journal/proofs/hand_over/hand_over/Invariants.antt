use Rattle.std.proofs.Common.{◌≡◌, ◌++◌, ◌<◌, ◌^◌, ℕ, List, length}
use Rattle.std.specs.List.{AllByRecursion}
use Rattle.journal.specs.Format.{entries_text}
use Rattle.journal.specs.Sinks.{HandsOn}
use Rattle.journal.proofs.hand_over.hand_over.Given as goal

-- so far the entries before the rest were taken
abbrev pub invariant-loop-rest : goal.invariant-loop-rest
invariant-loop-rest g l = (entries : List (List ℕ)) × HandsOn g.S.Sink.taken g.S.Sink.taken l.initial.sink l.sink entries × (l.text ≡ entries_text entries ++ l.rest) × AllByRecursion (λ entry. length entry < 10 ^ 8) entries

abbrev pub decreases-loop-rest : goal.decreases-loop-rest
decreases-loop-rest g l = length l.rest
