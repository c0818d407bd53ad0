use Rattle.std.proofs.Common.{◌≡◌}
use Rattle.machine_tests.proofs.seats.make_rounds.Given as goal

abbrev pub invariant-loop-round : goal.invariant-loop-round
invariant-loop-round g l = l.seat.hall ≡ l.hall
