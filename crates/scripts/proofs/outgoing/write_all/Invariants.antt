use Rattle.std.proofs.Common.{◌≡◌, ◌-◌, ◌≤◌, length, take}
use Rattle.std.specs.Io.KnownBytes.{Appends}
use Rattle.scripts.proofs.outgoing.write_all.Given as goal

abbrev pub invariant-loop-at : goal.invariant-loop-at
invariant-loop-at g l =
    (l.at ≤ length l.text)
    × Appends (g.W.Sink.written l.fn.sink) (g.W.Sink.written l.sink) (take l.at l.text)
    × (g.W.Sink.failed l.sink ≡ g.W.Sink.failed l.fn.sink)

abbrev pub decreases-loop-at : goal.decreases-loop-at
decreases-loop-at g l = length l.text - l.at
