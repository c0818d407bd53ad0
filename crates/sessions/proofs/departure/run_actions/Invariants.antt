use Rattle.std.proofs.Common.{◌≡◌}
use Rattle.sessions.proofs.Departing.{RunsSoFar}
use Rattle.sessions.proofs.departure.run_actions.Given as goal

abbrev pub invariant-loop : goal.invariant-loop
invariant-loop g l = record {
  hall : l.seat.hall ≡ l.place.hall.now;
  failed : g.Q.Caller.has_failed l.fn.caller → g.Q.Caller.has_failed l.caller;
  so_far : RunsSoFar l.place.session l.counter l.fn.seat (g.C.Clock.moments l.fn.clock) l.seat (g.C.Clock.moments l.clock);
}
