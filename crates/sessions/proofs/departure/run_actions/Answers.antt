use Rattle.std.proofs.Common.{◌∙◌, arith, sym}
use Rattle.sessions.proofs.Departing.{runs_none, runs_more, runs_end, runs_over}
use Rattle.sessions.proofs.departure.run_actions.Goals as goal

pub loop-init : goal.loop-init
loop-init g c = record { hall = c.requires.hall; failed = λ it. it; so_far = runs_none c.args.place.now.session c.args.seat.now (g.C.Clock.moments c.args.clock.now) }

pub returns-then-found_none-clause-runs : goal.returns-then-found_none-clause-runs
returns-then-found_none-clause-runs g c =
    runs_end c.args.place.now.session c.loop.counter c.now-now.result c.ask-reply.result c.args.seat.now c.loop.seat c.ask-reply.new.seat (g.C.Clock.moments c.args.clock.now) (g.C.Clock.moments c.loop.clock)
    (g.C.Clock.moments c.now-now.new.self) c.loop-test.true c.loop.invariant.so_far c.now-now.ensures.given c.ask-reply.ensures.gains (sym c.found_none.ensures ∙ c.if-found_none.true)

pub loop-preserved : goal.loop-preserved
loop-preserved g c = record {
  hall = c.ask-reply.ensures.hall;
  failed = λ it. c.ask-reply.ensures.failed (c.loop.invariant.failed it);
  so_far = runs_more c.args.place.now.session c.loop.counter c.now-now.result c.ask-reply.result c.args.seat.now c.loop.seat c.ask-reply.new.seat (g.C.Clock.moments c.args.clock.now) (g.C.Clock.moments c.loop.clock)
      (g.C.Clock.moments c.now-now.new.self) c.loop.invariant.so_far c.now-now.ensures.given c.ask-reply.ensures.gains (sym c.found_none.ensures ∙ c.if-found_none.false);
}

pub returns-clause-runs : goal.returns-clause-runs
returns-clause-runs g c = runs_over c.args.place.now.session c.loop.counter c.args.seat.now c.loop.seat (g.C.Clock.moments c.args.clock.now) (g.C.Clock.moments c.loop.clock) (omega arith) c.loop.invariant.so_far
