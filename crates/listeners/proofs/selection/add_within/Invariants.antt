use Rattle.std.proofs.Common.{◌≡◌, ◌++◌, map}
use Rattle.arena_snapshot.specs.Working.Change.{entries_of}
use Rattle.listeners.specs.Working.Items.{item_seen}
use Rattle.listeners.specs.Working.Reach.{ranks_between}
use Rattle.listeners.proofs.selection.add_within.Given as goal

abbrev pub invariant-loop-i : goal.invariant-loop-i
invariant-loop-i l = map item_seen l.items.items ≡ map item_seen l.fn.items.items ++ ranks_between l.query (entries_of l.view) l.from l.i
