use Rattle.std.proofs.Common.{◌≡◌, ◌≢◌, ℕ, List}
use Rattle.std.specs.Io.KnownBytes.{Appends, Consumes}
use Rattle.scripts.specs.Said.{refused}
use Rattle.scripts.specs.Working.Follow.{phase_of, IsAfter}
use Rattle.scripts.proofs.script.Script.read_all.Given as goal

abbrev pub invariant-loop-made : goal.invariant-loop-made
invariant-loop-made g l =
    ((g.R.Source.reads l.source ≡ l._made) × (g.R.Source.failed l.source ≡ g.R.Source.failed l.fn.source) × (g.W.Sink.failed l.sink ≡ g.W.Sink.failed l.fn.sink) × (phase_of l.self.desk.stage ≢ refused))
    × (taken sent : List ℕ) × Consumes (g.R.Source.left l.fn.source) (g.R.Source.left l.source) taken
    × Appends (g.W.Sink.written l.fn.sink) (g.W.Sink.written l.sink) sent
    × IsAfter l.self taken sent
