use Rattle.std.proofs.Common.{◌≡◌, Some, take}
use Rattle.serde_json.specs.View.{items_view}
use Rattle.entries.specs.Items.{each}
use Rattle.entries.specs.Writes.{write_in}
use Rattle.entries.proofs.writes.read_writes.Given as goal

abbrev pub invariant-loop-item : goal.invariant-loop-item
invariant-loop-item l = each write_in (items_view (take l.item-index l.items.items)) ≡ Some l.writes.items
