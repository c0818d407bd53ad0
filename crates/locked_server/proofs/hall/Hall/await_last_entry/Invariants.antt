use Rattle.locked_server.specs.Known.{IsSameSeat, SeesMore}
use Rattle.locked_server.proofs.hall.Hall.await_last_entry.Given as goal

abbrev pub invariant-loop : goal.invariant-loop
invariant-loop g l = IsSameSeat l.initial.seat l.seat × SeesMore l.initial.seat l.seat
