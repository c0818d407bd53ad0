use Rattle.std.proofs.Common.{◌≡◌, ◌-◌, ◌<◌, ◌≤◌, ℕ, List, length}
use Rattle.journal.specs.Found.{OnlyReads}
use Rattle.journal.specs.Recovering.{PlaceSaysMore}
use Rattle.journal.proofs.recovery.says_more.Given as goal

-- at no place so far a group says more
abbrev pub invariant-pieces : goal.invariant-pieces
invariant-pieces g l = record {
  from : l.chain.len ≤ l.at;
  within : l.at ≤ l.len;
  reads : OnlyReads g.D.Disk.holds g.D.Disk.may_leave g.D.Disk.moment g.D.Disk.left_since l.initial.disk l.disk;
  none : (file : List ℕ) → g.D.Disk.holds l.initial.disk file → length file ≡ l.len → (place : ℕ) → l.chain.len ≤ place → place < l.at → PlaceSaysMore file l.chain place → ⊥;
}

abbrev pub decreases-pieces : goal.decreases-pieces
decreases-pieces g l = l.len - l.at
