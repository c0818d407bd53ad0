use Rattle.std.proofs.Common.{◌≡◌}
use Rattle.locked_server.proofs.turns.last_ticket.Given as goal

abbrev pub invariant-loop : goal.invariant-loop
invariant-loop g l = (l.pass.table_id ≡ l.initial.pass.table_id) × (l.pass.me.0 ≡ l.initial.pass.me.0) × (l.pass.me.1 ≡ l.initial.pass.me.1)
