use Rattle.arena_snapshot.proofs.Neighbours.{AreBefore}
use Rattle.arena_snapshot.proofs.overlapping.overlap_in_order.Given as goal

abbrev pub invariant-loop-i : goal.invariant-loop-i
invariant-loop-i l = AreBefore l.writes l.i
