use Rattle.std.proofs.Common.{ap, sym, subst}
use Rattle.locked_server.specs.Working.Rests.{Rests}
use Rattle.locked_server.proofs.Seats.{rests_with, has_database}
use Rattle.locked_server.proofs.Serving.{makes}
use Rattle.locked_server.proofs.hall.Hall.call.Goals as goal

pub returns-in-Some-clause-made : goal.returns-in-Some-clause-made
returns-in-Some-clause-made g c other = let s = c.serve.ensures.entered in let k = makes c.seat.inside.pass.me _ _ _ _ _ c.in-Some.ensures.ticket.1 c.await_turn.ensures.turn s.1 s.2 in
    rw (← c.seat.view_is) (s.0, k.0, k.1)

pub serve-requires-clause-database : goal.serve-requires-clause-database
serve-requires-clause-database g c = let t = c.in-Some.ensures in has_database c.seat.inside.pass.me c.take_ticket.new.pass.me c.await_turn.new.pass.me c.in-Some.ticket c.seat.invariant.2.0 (ap (λ m. m.1) c.seat.invariant.0) t.hall.1 t.ticket.1 t.ticket.0 c.seat.invariant.2.1 c.await_turn.ensures.turn

pub invariant_of-seat : goal.invariant_of-seat
invariant_of-seat g c = let s = c.serve.ensures.entered in rests_with _ _ _ _ s.0 s.2 s.3 s.1

pub invariant_of-seat-in-None : goal.invariant_of-seat-in-None
invariant_of-seat-in-None g c = let t = c.in-None.ensures in subst Rests (λ i. (sym t.ticket i, sym t.hall.1 i)) c.seat.invariant

pub returns-in-Some-clause-legal : goal.returns-in-Some-clause-legal
returns-in-Some-clause-legal g c = (invariant_of-seat g c).1
