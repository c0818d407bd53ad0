use Rattle.server.proofs.Visiting.{one_visit}
use Rattle.server.proofs.rounds.serve_round.Goals as goal

pub returns-in-Some-clause-visit : goal.returns-in-Some-clause-visit
returns-in-Some-clause-visit g c = one_visit c.args.place.now.tokens.now c.args.session c.args.seat.now c.serve_client.new.seat c.serve_client.ensures.visit
