use Rattle.std.proofs.Common.{◌≡◌, map, take}
use Rattle.std.specs.List.{AllByRecursion}
use Rattle.std.specs.Borrow.{Bor}
use Rattle.tree_model.specs.Write.{Write, IsLawfulWrite}
use Rattle.arena_snapshot.proofs.proposal.borrowed.Given as goal

abbrev pub invariant-loop-write : goal.invariant-loop-write
invariant-loop-write l = record {
  same : map (λ (w : Bor Write). w.now) l.borrowed.items ≡ take l.write-index l.writes;
  lawful : AllByRecursion IsLawfulWrite (map (λ (w : Bor Write). w.now) l.borrowed.items);
}
