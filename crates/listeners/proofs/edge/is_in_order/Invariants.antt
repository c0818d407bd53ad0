use Rattle.std.specs.List.Sorted.{IsSortedWithin}
use Rattle.std.specs.Ordering.{is_lt}
use Rattle.listeners.specs.Working.Items.{item_cmp}
use Rattle.listeners.proofs.edge.is_in_order.Given as goal

abbrev pub invariant-loop-i : goal.invariant-loop-i
invariant-loop-i l = IsSortedWithin (λ a b. is_lt (item_cmp a b)) l.items 0 l.i
