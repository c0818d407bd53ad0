use Rattle.server.proofs.Visiting.{no_visits, more_visits}
use Rattle.server.proofs.rounds.work.Goals as goal

pub loop-init : goal.loop-init
loop-init g c = record { hall = c.requires.hall; visits = no_visits c.args.place.now.tokens.now c.args.session c.args.seat.now }

pub loop-preserved : goal.loop-preserved
loop-preserved g c = record {
  hall = c.serve_round.ensures.hall;
  visits = more_visits c.args.place.now.tokens.now c.args.session c.loop.counter c.args.seat.now c.loop.seat c.serve_round.new.seat c.loop.invariant.visits c.serve_round.ensures.visit;
}
