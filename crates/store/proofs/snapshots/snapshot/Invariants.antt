use Rattle.std.proofs.Common.{map}
use Rattle.store.proofs.Snapping.{HasPutBack}
use Rattle.store.proofs.snapshots.snapshot.Given as goal

abbrev pub invariant-loop-number : goal.invariant-loop-number
invariant-loop-number l = HasPutBack (map (λ entry. entry.items) l.entries.items) l.rules l.core l.number-iterator
