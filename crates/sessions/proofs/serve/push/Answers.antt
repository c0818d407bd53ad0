use Rattle.std.proofs.Common.{refl}
use Rattle.std.specs.Prelude.{Some}
use Rattle.sessions.specs.declared.serve.SessionEnd.TheVariants.{Unkept}
use Rattle.sessions.proofs.Going.{moves_none}
use Rattle.sessions.proofs.Turning.{pushes}
use Rattle.sessions.proofs.serve.push.Goals as goal

pub returns-in-Ok-clause-pushes : goal.returns-in-Ok-clause-pushes
returns-in-Ok-clause-pushes g c =
    pushes c.args.place.now.session c.now-now.result c.args.seat.now c.ask-reply.new.seat (g.C.Clock.moments c.args.clock.now) (g.C.Clock.moments c.now-now.new.self) (g.P.Peer.traffic c.args.peer.now)
    (g.P.Peer.traffic c.send_news.new.peer) c.ask-reply.result c.send_news.result c.now-now.ensures.given c.ask-reply.ensures.gains c.send_news.ensures.sent

pub returns-clause-pushes : goal.returns-clause-pushes
returns-clause-pushes g c =
    let p = g.P.Peer.traffic c.args.peer.now in
    pushes c.args.place.now.session c.now-now.result c.args.seat.now c.ask-reply.new.seat (g.C.Clock.moments c.args.clock.now) (g.C.Clock.moments c.now-now.new.self) p p c.ask-reply.result (Some Unkept)
    c.now-now.ensures.given c.ask-reply.ensures.gains (moves_none p p refl refl, c.requires.open.0)
