use Rattle.std.proofs.Common.{sym, ◌∙◌, subst, rules}
use Rattle.journal.specs.Format.{entries_text}
use Rattle.journal.specs.Recovery.{Begins, IsNoText}
use Rattle.journal.proofs.Walking.{reads_on, handed_on, no_entries_at, stopped_at}
use Rattle.journal.proofs.recovery.walk.Goals as goal

pub groups-preserved : goal.groups-preserved
groups-preserved g c =
    let disk = g.D.Disk in
    let before = c.groups.invariant in
    let behind = c.in-Some.behind in
    let inside = rw c.in-Some.is at c.in_ok-behind.ensures.within in
    record {
      within = inside.1;
      reads = reads_on disk.holds disk.may_leave disk.moment disk.left_since c.args.disk.now c.groups.disk c.next_group.new.disk before.reads c.next_group.ensures.reads;
      so_far = λ file holds sized start.
          let read = c.in_ok-behind.ensures.next file (before.reads.file file holds) sized in
          let found = rw c.in-Some.is at read in
          let took = c.in-Ok.ensures.taken in
          handed_on g.S.Sink.taken file c.groups.chain behind c.args.sink.now c.groups.sink c.hand_over.new.sink c.in-Some.text.items (before.so_far file holds sized start) found took.0 took.1 (sym c.deref.ensures.value ∙ took.2) took.3;
    }

pub returns-in-Err-NoEntry-clause-named : goal.returns-in-Err-NoEntry-clause-named
returns-in-Err-NoEntry-clause-named g c = λ file holds sized start.
    let before = c.groups.invariant in
    let read = c.in_ok-behind.ensures.next file (before.reads.file file holds) sized in
    let found = rw c.in-Some.is at read in
    let none : IsNoText c.deref.result.now = c.in-Err-NoEntry.ensures.no_entry (search rules) in
    no_entries_at g.S.Sink.taken file c.groups.chain c.in-Some.behind c.args.sink.now c.groups.sink c.in-Some.text.items (before.so_far file holds sized start) found (subst IsNoText c.deref.ensures.value none)

pub returns-in-Err-Stopped-clause-stopped : goal.returns-in-Err-Stopped-clause-stopped
returns-in-Err-Stopped-clause-stopped g c = λ file holds sized start _.
    let before = c.groups.invariant in
    let read = c.in_ok-behind.ensures.next file (before.reads.file file holds) sized in
    let found = rw c.in-Some.is at read in
    let took = c.in-Err-Stopped.ensures.stopped (search rules) in
    stopped_at g.S.Sink.taken g.S.Sink.refused file c.groups.chain c.in-Some.behind c.args.sink.now c.groups.sink c.hand_over.new.sink c.in-Some.text.items (before.so_far file holds sized start) found took.0 took.1 (subst (λ t. Begins (entries_text took.0) t) c.deref.ensures.value took.2)
