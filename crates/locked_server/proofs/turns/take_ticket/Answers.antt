use Rattle.std.proofs.Common.{rules, ap, ◌∙◌}
use Rattle.locked_server.proofs.Keeps.{takes_ticket}
use Rattle.locked_server.proofs.turns.take_ticket.Goals as goal

pub compare_exchange-found-requires : goal.compare_exchange-found-requires
compare_exchange-found-requires g c = (search rules, search rules, takes_ticket _ _ _ _ _ (ap (λ m. m.0.stage) c.loop.invariant.1 ∙ c.requires.resting))
