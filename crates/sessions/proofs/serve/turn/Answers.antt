use Rattle.sessions.specs.Serving.{world}
use Rattle.sessions.proofs.Turning.{turns_cut, turns_whole}
use Rattle.sessions.proofs.serve.turn.Goals as goal

pub returns-in-Some-clause-turns : goal.returns-in-Some-clause-turns
returns-in-Some-clause-turns g c =
    turns_cut c.args.place.now.tokens.now c.args.place.now.session (world c.args.seat.now (g.C.Clock.moments c.args.clock.now) (g.P.Peer.traffic c.args.peer.now))
    (world c.hear.new.seat (g.C.Clock.moments c.hear.new.clock) (g.P.Peer.traffic c.hear.new.peer)) c.in-Some.end c.in-Some.ensures.answers

pub returns-in-None-clause-turns : goal.returns-in-None-clause-turns
returns-in-None-clause-turns g c =
    turns_whole c.args.place.now.tokens.now c.args.place.now.session (world c.args.seat.now (g.C.Clock.moments c.args.clock.now) (g.P.Peer.traffic c.args.peer.now))
    (world c.hear.new.seat (g.C.Clock.moments c.hear.new.clock) (g.P.Peer.traffic c.hear.new.peer))
    (world c.push.new.seat (g.C.Clock.moments c.push.new.clock) (g.P.Peer.traffic c.push.new.peer)) c.push.result c.in-None.ensures.answers c.push.ensures.pushes
