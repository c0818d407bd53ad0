use Rattle.std.proofs.Common.{◌≡◌, ◌-◌, length}
use Rattle.arena_snapshot.specs.Working.Change.{entries_of}
use Rattle.listeners.specs.Working.Ahead.{number_in, count_ahead}
use Rattle.listeners.specs.Working.Items.{rank_seen}
use Rattle.listeners.proofs.Listing.{looked_upto}
use Rattle.listeners.proofs.membership.are_few_ahead.Given as goal

abbrev pub invariant-loop-from : goal.invariant-loop-from
invariant-loop-from l = l.room ≡ number_in l.limit - count_ahead l.limit (rank_seen l.item) (looked_upto l.query (entries_of l.view) l.reach l.from)

abbrev pub decreases-loop-from : goal.decreases-loop-from
decreases-loop-from l = length (entries_of l.view) - l.from
