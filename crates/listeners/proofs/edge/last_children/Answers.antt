use Rattle.std.proofs.Common.{◌-◌, length, arith}
use Rattle.listeners.proofs.Edges.{from_on, all_of_last}
use Rattle.listeners.proofs.edge.last_children.Goals as goal

pub returns-then-items-limit : goal.returns-then-items-limit
returns-then-items-limit c = all_of_last c.args.items.now c.args.limit c.if-items-limit.true

pub returns : goal.returns
returns c = from_on c.args.items.now (length c.args.items.now - c.args.limit) c.in_ok-first.first c.in_ok-first.ensures c.args.limit (omega (arith, c.if-items-limit.false))
