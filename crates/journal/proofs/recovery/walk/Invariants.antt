use Rattle.std.proofs.Common.{◌≡◌, ◌-◌, ◌≤◌, ℕ, List, [], length}
use Rattle.journal.specs.Found.{OnlyReads}
use Rattle.journal.specs.Recovering.{ReadSoFar, HandedOver}
use Rattle.journal.proofs.recovery.walk.Given as goal

-- the groups so far were handed over
abbrev pub invariant-groups : goal.invariant-groups
invariant-groups g l = record {
  within : l.chain.len ≤ l.len;
  reads : OnlyReads g.D.Disk.holds g.D.Disk.may_leave g.D.Disk.moment g.D.Disk.left_since l.initial.disk l.disk;
  so_far : (file : List ℕ) → g.D.Disk.holds l.initial.disk file → length file ≡ l.len → ReadSoFar file l.initial.chain [] → HandedOver g.S.Sink.taken file l.chain l.initial.sink l.sink;
}

abbrev pub decreases-groups : goal.decreases-groups
decreases-groups g l = l.len - l.chain.len
