use Rattle.std.specs.List.Sorted.{IsSorted}
use Rattle.arena_snapshot.proofs.Tests.{from_true}
use Rattle.listeners.specs.Working.Items.{item_cmp}
use Rattle.listeners.proofs.Edges.{stands_in_order}
use Rattle.listeners.proofs.edge.item_at.Goals as goal

pub returns-then-is_in_order : goal.returns-then-is_in_order
returns-then-is_in_order c =
    let items = c.args.items.now in
    stands_in_order items c.args.i c.index-items-i.result (from_true c.is_in_order.result (IsSorted item_cmp items) c.is_in_order.ensures c.if-is_in_order.true) c.requires c.index-items-i.is
