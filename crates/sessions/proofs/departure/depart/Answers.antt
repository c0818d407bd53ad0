use Rattle.sessions.proofs.Departing.{departs}
use Rattle.sessions.proofs.departure.depart.Goals as goal

pub returns-clause-departs : goal.returns-clause-departs
returns-clause-departs g c =
    departs c.args.place.now.session c.now-now.result c.now-then.result c.ask.result c.ask-2.result c.args.seat.now c.ask.new.seat c.run_actions.new.seat c.ask-2.new.seat (g.C.Clock.moments c.args.clock.now)
    (g.C.Clock.moments c.now-now.new.self) (g.C.Clock.moments c.run_actions.new.clock) (g.C.Clock.moments c.now-then.new.self) c.now-now.ensures.given c.ask.ensures.gains c.run_actions.ensures.runs
    c.now-then.ensures.given c.ask-2.ensures.gains
