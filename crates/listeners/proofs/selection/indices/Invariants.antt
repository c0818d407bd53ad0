use Rattle.std.proofs.Common.{◌≡◌, map, filter, take}
use Rattle.listeners.specs.declared.item.Item.{Item}
use Rattle.listeners.specs.Working.Items.{rank_seen, lies_inside}
use Rattle.listeners.proofs.selection.indices.Given as goal

abbrev pub invariant-loop-item : goal.invariant-loop-item
invariant-loop-item l = l.indices.items ≡ map (λ (it : Item). it.index) (filter (λ (it : Item). lies_inside l.edge (rank_seen it)) (take l.item-index l.items))
