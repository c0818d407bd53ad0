use Rattle.std.proofs.Common.{length, map}
use Rattle.rtdb_model.specs.State.{actions_of}
use Rattle.store.specs.LeavingWorking.{HasLeft, IsLeavingAmong}
use Rattle.store.proofs.leaving.run_all.Given as goal

-- the actions so far were run
abbrev pub invariant-actions : goal.invariant-actions
invariant-actions l = record {
  gone : HasLeft l.initial.core l.now (map (λ entry. entry.items) l.initial.entries.items) (map (λ entry. entry.items) l.entries.items) l.core;
  leaving : IsLeavingAmong l.initial.core l.session l.core;
}

abbrev pub decreases-actions : goal.decreases-actions
decreases-actions l = length (actions_of l.core l.session)
