use Rattle.std.proofs.Common.{rules, ap, sym, subst, ◌∙◌, ℕ}
use Rattle.std.specs.Prelude.{Option}
use Rattle.atomic_table.specs.Table.{Me}
use Rattle.locked_server.specs.declared.content.Content.{Content}
use Rattle.locked_server.specs.declared.view.View.{View}
use Rattle.locked_server.specs.Working.Rule.{Turn, ticket_of}
use Rattle.locked_server.proofs.Keeps.{watches}
use Rattle.locked_server.proofs.turns.await_turn.Goals as goal

pub load-requires : goal.load-requires
load-requires g c = (search rules, search rules, watches _ _ _ _ _ (ap (λ m. m.0.stage) c.loop.invariant.1 ∙ c.requires.ticket))

pub returns-then-load-ticket-clause-turn : goal.returns-then-load-ticket-clause-turn
returns-then-load-ticket-clause-turn g c =
    let mine = ap (λ m. ticket_of m.0.stage) c.loop.invariant.1 ∙ ap ticket_of c.requires.ticket in
    subst (λ (z : Me (Option Content) View × ℕ). Turn z.0 c.load.new.seat.me z.1) (λ i. (c.loop.invariant.1 i, c.if-load-ticket.true i)) (c.load.ensures.2.0 (c.if-load-ticket.true ∙ sym mine))
