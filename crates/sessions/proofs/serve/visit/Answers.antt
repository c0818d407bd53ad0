use Rattle.std.proofs.Common.{[], refl}
use Rattle.rtdb_model.specs.declared.event.Event.TheVariants.{Open}
use Rattle.rtdb_model.specs.declared.reply.Reply.TheVariants.{Done}
use Rattle.sessions.specs.Calls.{called}
use Rattle.sessions.specs.Serving.{world}
use Rattle.sessions.proofs.Going.{goes_calling, moves_none}
use Rattle.sessions.proofs.Turning.{attends, turns_away}
use Rattle.sessions.proofs.serve.visit.Goals as goal

pub returns-in-Done-clause-visits : goal.returns-in-Done-clause-visits
returns-in-Done-clause-visits g c =
    let p = g.P.Peer.traffic c.args.peer.now in
    attends c.args.place.now.tokens.now c.args.place.now.session c.args.turns c.now-now.result (world c.args.seat.now (g.C.Clock.moments c.args.clock.now) (g.P.Peer.traffic c.args.peer.now))
    (world c.ask.new.seat (g.C.Clock.moments c.now-now.new.self) (g.P.Peer.traffic c.args.peer.now))
    (world c.take_turns-end.new.seat (g.C.Clock.moments c.take_turns-end.new.clock) (g.P.Peer.traffic c.take_turns-end.new.peer)) c.depart.new.seat (g.C.Clock.moments c.depart.new.clock) c.take_turns-end.result
    (goes_calling c.args.seat.now c.ask.new.seat (g.C.Clock.moments c.args.clock.now) (g.C.Clock.moments c.now-now.new.self) p p c.now-now.result (called c.now-now.result c.args.place.now.session Open Done) []
    c.now-now.ensures.given c.in-Done.ensures.gains (moves_none p p refl refl))
    c.take_turns-end.ensures.turns c.depart.ensures.departs

pub returns-in_default : goal.returns-in_default
returns-in_default g c = record {
  hall = c.ask.ensures.hall;
  unkept = λ is. absurd cc;
  visits = turns_away c.args.place.now.tokens.now c.args.place.now.session c.args.turns c.now-now.result c.args.seat.now c.ask.new.seat (g.C.Clock.moments c.args.clock.now) (g.C.Clock.moments c.now-now.new.self)
      (g.P.Peer.traffic c.args.peer.now) (g.P.Peer.traffic c.turn_away.new.peer) c.ask.result c.in_default.not-Done c.now-now.ensures.given c.ask.ensures.gains c.turn_away.ensures;
}
