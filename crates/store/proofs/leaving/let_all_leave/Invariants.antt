use Rattle.std.proofs.Common.{[], map}
use Rattle.std.specs.FinMap as map_of
use Rattle.store.specs.LeavingWorking.{HasLeft}
use Rattle.store.proofs.leaving.let_all_leave.Given as goal

-- the sessions so far have left
abbrev pub invariant-sessions : goal.invariant-sessions
invariant-sessions l = HasLeft l.initial.core l.now [] (map (λ entry. entry.items) l.entries.items) l.core

abbrev pub decreases-sessions : goal.decreases-sessions
decreases-sessions l = map_of.len l.core.sessions
