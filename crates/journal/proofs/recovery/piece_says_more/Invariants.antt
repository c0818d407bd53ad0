use Rattle.std.proofs.Common.{◌≡◌, ◌+◌, ◌<◌, ◌≤◌, ℕ, List, length, take, drop}
use Rattle.journal.specs.Found.{OnlyReads}
use Rattle.journal.specs.Recovering.{PlaceSaysMore}
use Rattle.journal.proofs.recovery.piece_says_more.Given as goal

-- at no place so far a group says more
abbrev pub invariant-places : goal.invariant-places
invariant-places g l = record {
  reads : OnlyReads g.D.Disk.holds g.D.Disk.may_leave g.D.Disk.moment g.D.Disk.left_since l.initial.disk l.disk;
  none : (file : List ℕ) → g.D.Disk.holds l.initial.disk file → length file ≡ l.len → l.piece ≡ take (length l.piece) (drop l.at file) → (place : ℕ) → l.at ≤ place → place < l.at + l.i → PlaceSaysMore file l.chain place → ⊥;
}
