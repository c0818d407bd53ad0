use Rattle.std.proofs.Common.{◌-◌, arith}
use Rattle.listeners.proofs.Edges.{up_to, all_of_first}
use Rattle.listeners.proofs.edge.first_children.Goals as goal

pub returns-then-items-limit : goal.returns-then-items-limit
returns-then-items-limit c = all_of_first c.args.items.now c.args.limit c.if-items-limit.true

pub returns : goal.returns
returns c = up_to c.args.items.now (c.args.limit - 1) c.in_ok-last.last c.in_ok-last.ensures c.args.limit (omega (arith, c.requires))
