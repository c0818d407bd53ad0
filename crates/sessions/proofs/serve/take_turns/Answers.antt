use Rattle.sessions.specs.Serving.{world}
use Rattle.sessions.proofs.Turning.{so_far_none, so_far_more, turns_end}
use Rattle.sessions.proofs.serve.take_turns.Goals as goal

pub loop-init : goal.loop-init
loop-init g c = record {
  hall = c.requires.hall;
  open_peer = c.requires.open;
  clear = c.requires.clear;
  so_far = so_far_none c.args.place.now.tokens.now c.args.place.now.session (world c.args.seat.now (g.C.Clock.moments c.args.clock.now) (g.P.Peer.traffic c.args.peer.now));
}

pub returns-in-Some-clause-turns : goal.returns-in-Some-clause-turns
returns-in-Some-clause-turns g c =
    turns_end c.args.place.now.tokens.now c.args.place.now.session c.loop.counter c.args.turns (world c.args.seat.now (g.C.Clock.moments c.args.clock.now) (g.P.Peer.traffic c.args.peer.now))
    (world c.loop.seat (g.C.Clock.moments c.loop.clock) (g.P.Peer.traffic c.loop.peer))
    (world c.turn.new.seat (g.C.Clock.moments c.turn.new.clock) (g.P.Peer.traffic c.turn.new.peer)) c.in-Some.end c.loop-test.true c.loop.invariant.so_far c.in-Some.ensures.turns

pub loop-preserved : goal.loop-preserved
loop-preserved g c = record {
  hall = c.in_default.ensures.hall;
  open_peer = c.in_default.ensures.turns.3;
  clear = c.in_default.ensures.clear;
  so_far = so_far_more c.args.place.now.tokens.now c.args.place.now.session c.loop.counter (world c.args.seat.now (g.C.Clock.moments c.args.clock.now) (g.P.Peer.traffic c.args.peer.now))
      (world c.loop.seat (g.C.Clock.moments c.loop.clock) (g.P.Peer.traffic c.loop.peer))
      (world c.turn.new.seat (g.C.Clock.moments c.turn.new.clock) (g.P.Peer.traffic c.turn.new.peer)) c.loop.invariant.so_far c.in_default.ensures.turns;
}
