use Rattle.std.specs.List.{AllWithin}
use Rattle.tree_model.specs.Put.{IsLawfulPut}
use Rattle.tree_model.specs.Write.{made}
use Rattle.arena_snapshot.specs.View.{node_or_null}
use Rattle.arena_snapshot.specs.Working.Leaving.{Leaves}
use Rattle.arena_snapshot.proofs.difference.is_changed_at_zero.Given as goal

abbrev pub invariant-loop-write : goal.invariant-loop-write
invariant-loop-write l = record {
  lawful : AllWithin (λ w. IsLawfulPut (made 0 w)) l.writes 0 l.write-index;
  leaves : AllWithin (λ w. Leaves (node_or_null l.base) l.keys (made 0 w)) l.writes 0 l.write-index;
}
