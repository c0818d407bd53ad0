use Rattle.std.proofs.Common.{refl}
use Rattle.evaluator.proofs.Places.{below_place}
use Rattle.evaluator.proofs.snapshot.Snapshot.placed.Goals as goal

pub invariant_of-try_alloc : goal.invariant_of-try_alloc
invariant_of-try_alloc c = below_place _ _ _ _ _ _ _ _ c.self.view_is c.self.invariant c.requires.child refl c.requires.room
