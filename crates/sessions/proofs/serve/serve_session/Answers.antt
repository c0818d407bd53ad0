use Rattle.sessions.specs.Serving.{world}
use Rattle.sessions.proofs.Turning.{serves}
use Rattle.sessions.proofs.serve.serve_session.Goals as goal

pub returns-clause-serves : goal.returns-clause-serves
returns-clause-serves g c =
    serves c.args.tokens.now c.args.session c.args.turns (world c.args.seat.now (g.C.Clock.moments c.args.clock.now) (g.P.Peer.traffic c.args.peer.now))
    (world c.visit-end.new.seat (g.C.Clock.moments c.visit-end.new.clock) (g.P.Peer.traffic c.visit-end.new.peer)) c.visit-end.result (g.P.Peer.traffic c.finish.new.self) c.visit-end.ensures.visits c.finish.ensures.finishes
