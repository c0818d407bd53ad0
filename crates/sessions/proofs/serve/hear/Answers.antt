use Rattle.std.specs.Prelude.{Some, None}
use Rattle.sessions.proofs.Turning.{hears_nothing, hears_close, hears_fault, hears_loss, hears_message}
use Rattle.sessions.proofs.serve.hear.Goals as goal

pub returns-in-Some-clause-answers : goal.returns-in-Some-clause-answers
returns-in-Some-clause-answers g c =
    hears_message c.args.place.now.tokens.now c.args.place.now.session c.args.seat.now c.reply_to.new.seat (g.C.Clock.moments c.args.clock.now) (g.C.Clock.moments c.reply_to.new.clock) (g.P.Peer.traffic c.args.peer.now)
    (g.P.Peer.traffic c.receive.new.self) (g.P.Peer.traffic c.reply_to.new.peer) c.in-Message.message.items c.deref.result.now (Some c.in-Some.end) c.in-Message.ensures.receives.0 c.deref.ensures.value c.in-Some.ensures.replies

pub returns-in-Message-clause-answers : goal.returns-in-Message-clause-answers
returns-in-Message-clause-answers g c =
    hears_message c.args.place.now.tokens.now c.args.place.now.session c.args.seat.now c.reply_to.new.seat (g.C.Clock.moments c.args.clock.now) (g.C.Clock.moments c.reply_to.new.clock) (g.P.Peer.traffic c.args.peer.now)
    (g.P.Peer.traffic c.receive.new.self) (g.P.Peer.traffic c.reply_to.new.peer) c.in-Message.message.items c.deref.result.now None c.in-Message.ensures.receives.0 c.deref.ensures.value c.in-None.ensures.replies

pub returns-in-Nothing-clause-answers : goal.returns-in-Nothing-clause-answers
returns-in-Nothing-clause-answers g c = hears_nothing c.args.place.now.tokens.now c.args.place.now.session c.args.seat.now (g.C.Clock.moments c.args.clock.now) (g.P.Peer.traffic c.args.peer.now) (g.P.Peer.traffic c.receive.new.self) c.requires.open c.in-Nothing.ensures.receives

pub returns-in-Closed-clause-answers : goal.returns-in-Closed-clause-answers
returns-in-Closed-clause-answers g c = hears_close c.args.place.now.tokens.now c.args.place.now.session c.args.seat.now (g.C.Clock.moments c.args.clock.now) (g.P.Peer.traffic c.args.peer.now) (g.P.Peer.traffic c.receive.new.self) c.requires.open c.in-Closed.ensures.receives

pub returns-in-Broken-clause-answers : goal.returns-in-Broken-clause-answers
returns-in-Broken-clause-answers g c = hears_fault c.args.place.now.tokens.now c.args.place.now.session c.args.seat.now (g.C.Clock.moments c.args.clock.now) (g.P.Peer.traffic c.args.peer.now) (g.P.Peer.traffic c.receive.new.self) c.requires.open c.in-Broken.ensures.receives

pub returns-clause-answers : goal.returns-clause-answers
returns-clause-answers g c = hears_loss c.args.place.now.tokens.now c.args.place.now.session c.args.seat.now (g.C.Clock.moments c.args.clock.now) (g.P.Peer.traffic c.args.peer.now) (g.P.Peer.traffic c.receive.new.self) c.requires.open c.in-NoMemory.ensures.receives
