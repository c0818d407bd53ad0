use Rattle.std.proofs.Common.{◌≡◌, ◌-◌, length, map}
use Rattle.arena_snapshot.specs.Working.Change.{entries_of}
use Rattle.listeners.specs.Working.Items.{item_seen}
use Rattle.listeners.proofs.Listing.{looked_upto}
use Rattle.listeners.proofs.selection.within.Given as goal

abbrev pub invariant-loop-from : goal.invariant-loop-from
invariant-loop-from l = map item_seen l.items.items ≡ looked_upto l.query (entries_of l.view) l.reach l.from

abbrev pub decreases-loop-from : goal.decreases-loop-from
decreases-loop-from l = length (entries_of l.view) - l.from
