use Rattle.std.proofs.Common.{◌≡◌, ◌-◌}
use Rattle.arena_snapshot.specs.Working.Change.{entries_of}
use Rattle.listeners.specs.Working.Ahead.{count_ahead}
use Rattle.listeners.specs.Working.Items.{rank_seen}
use Rattle.listeners.specs.Working.Reach.{ranks_between}
use Rattle.listeners.proofs.membership.room_left.Given as goal

abbrev pub invariant-loop-i : goal.invariant-loop-i
invariant-loop-i l = l.left ≡ l.room - count_ahead l.limit (rank_seen l.item) (ranks_between l.query (entries_of l.view) l.fn.stretch.from l.i)
