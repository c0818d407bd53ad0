use Rattle.std.proofs.Common.{◌≡◌, List, take}
use Rattle.journal.specs.Format.{Group}
use Rattle.journal.specs.Keeping.{Keeps, chain_identifier}
use Rattle.store.proofs.Adding.{SoFar}
use Rattle.store.proofs.Steps.{texts}
use Rattle.store.proofs.appending.append_all.Given as goal

-- the entries so far were appended
abbrev pub invariant-loop-entry : goal.invariant-loop-entry
invariant-loop-entry g l = record {
  identifier : chain_identifier l.chain ≡ chain_identifier l.fn.chain;
  so_far : (groups : List Group) → Keeps g.D.Disk.holds g.D.Disk.may_leave l.fn.disk l.fn.chain groups groups
      → SoFar g.D.Disk.holds g.D.Disk.may_leave g.D.Disk.moment g.D.Disk.left_since l.fn.disk l.disk (chain_identifier l.fn.chain) l.chain groups (texts l.entries) (texts (take l.entry-index l.entries));
}
