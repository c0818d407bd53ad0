use Rattle.std.proofs.Common.{◌≡◌}
use Rattle.machine_tests.proofs.seats.make_rows.Given as goal

abbrev pub invariant-loop-row : goal.invariant-loop-row
invariant-loop-row g l = l.seat.hall ≡ l.hall
