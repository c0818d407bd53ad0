use Rattle.std.proofs.Common.{◌≡◌}
use Rattle.server.specs.Working.{HasVisits}
use Rattle.server.proofs.rounds.work.Given as goal

abbrev pub invariant-loop : goal.invariant-loop
invariant-loop g l = record {
  hall : l.seat.hall ≡ l.place.hall.now;
  visits : HasVisits l.place.tokens.now l.session l.counter l.fn.seat l.seat;
}
