use Rattle.std.proofs.Common.{rules, ap, sym, ◌∙◌, Some, ◌∷◌}
use Rattle.atomic_table.specs.Table.{rest}
use Rattle.locked_server.proofs.turns.last_turn.Goals as goal

pub exchange-requires : goal.exchange-requires
exchange-requires g c = let t = c.await_turn.ensures.turn in (search rules, (Some t.content, t.slot ∙ ap (λ l. (0, Some t.content) ∷ l) (sym (ap rest t.slot))))
