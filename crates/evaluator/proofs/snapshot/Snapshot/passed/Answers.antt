use Rattle.evaluator.proofs.Places.{passed_place}
use Rattle.evaluator.proofs.snapshot.Snapshot.passed.Goals as goal

pub invariant_of-try_alloc : goal.invariant_of-try_alloc
invariant_of-try_alloc c = passed_place _ _ _ _ _ _ _ c.self.view_is c.self.invariant c.requires
