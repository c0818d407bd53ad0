use Rattle.sessions.proofs.Turning.{replied}
use Rattle.sessions.proofs.serve.reply_to.Goals as goal

pub returns-in-Ok-clause-replies : goal.returns-in-Ok-clause-replies
returns-in-Ok-clause-replies g c =
    let a = c.in-Ok.ensures.answered in
    replied c.args.place.now.tokens.now c.args.place.now.session c.now-now.result c.args.message.now a.0 _ a.1 c.args.seat.now c.attend.new.seat (g.C.Clock.moments c.args.clock.now) (g.C.Clock.moments c.now-now.new.self)
    (g.P.Peer.traffic c.args.peer.now) (g.P.Peer.traffic c.send_stored.new.peer) c.send_stored.result c.now-now.ensures.given a.2 a.3 a.4 c.send_stored.ensures.sent
