use Rattle.std.proofs.Common.{◌≡◌, [], take}
use Rattle.journal.specs.Found.{OnlyReads}
use Rattle.journal.specs.Keeping.{Drafts, chain_identifier}
use Rattle.store.specs.AppendingWorking.{AreDrafted}
use Rattle.store.proofs.Steps.{texts}
use Rattle.store.proofs.appending.add_all.Given as goal

-- the entries so far were added
abbrev pub invariant-loop-entry : goal.invariant-loop-entry
invariant-loop-entry g l = record {
  identifier : chain_identifier l.chain ≡ chain_identifier l.fn.chain;
  reads : OnlyReads g.D.Disk.holds g.D.Disk.may_leave g.D.Disk.moment g.D.Disk.left_since l.fn.disk l.disk;
  added : Drafts g.D.Disk.draft l.fn.disk l.fn.chain [] → AreDrafted g.D.Disk.draft l.disk l.chain (texts (take l.entry-index l.entries));
}
