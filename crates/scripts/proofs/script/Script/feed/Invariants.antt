use Rattle.std.proofs.Common.{◌≡◌, ◌≢◌, ℕ, List, ◌++◌, length}
use Rattle.std.specs.Io.KnownBytes.{Appends}
use Rattle.scripts.specs.Said.{refused}
use Rattle.scripts.specs.Working.Follow.{phase_of, IsAfter}
use Rattle.scripts.proofs.script.Script.feed.Given as goal

abbrev pub invariant-loop-part : goal.invariant-loop-part
invariant-loop-part g l =
    (done : List ℕ) × (l.piece ≡ done ++ l.rest) × ((taken sent : List ℕ) →
    IsAfter l.fn.self taken sent →
    (more : List ℕ) × Appends (g.W.Sink.written l.fn.sink) (g.W.Sink.written l.sink) more × IsAfter l.self (taken ++ done) (sent ++ more))
    × (g.W.Sink.failed l.sink ≡ g.W.Sink.failed l.fn.sink)
    × (phase_of l.self.desk.stage ≢ refused)

abbrev pub decreases-loop-part : goal.decreases-loop-part
decreases-loop-part g l = length l.rest
