use Rattle.std.proofs.Common.{◌≤◌}
use Rattle.hall_journal.proofs.hall_journal.HallJournal.wait.Given as goal

-- no less is known to be stored than at first
abbrev pub invariant-loop : goal.invariant-loop
invariant-loop g l = l.initial.stored ≤ l.stored
