use Rattle.std.proofs.Common.{◌≡◌, drop}
use Rattle.tree_model.specs.Put.{overlaps}
use Rattle.arena_snapshot.proofs.overlapping.overlap_in_any_order.Given as goal

abbrev pub invariant-loop-i : goal.invariant-loop-i
invariant-loop-i l = overlaps l.writes ≡ overlaps (drop l.i l.writes)
