use Rattle.std.proofs.Common.{◌≡◌, take, arith, rules}
use Rattle.disk.specs.Disk.{Shortened}
use Rattle.disk.proofs.Outcomes.{replaced_crash, replaced_kept, time_stays}
use Rattle.disk.proofs.Tearing.{uncut}
use Rattle.disk.proofs.memory_disk.MemoryDiskDisk.cut.Goals as goal

pub returns-then-self-clause-crash : goal.returns-then-self-clause-crash
returns-then-self-clause-crash c = λ after out. (after, out, uncut c.args.len after)

pub returns-then-stops-clause-crash : goal.returns-then-stops-clause-crash
returns-then-stops-clause-crash c = λ after out. (after, out, uncut c.args.len after)

pub returns-in_default-clause-crash : goal.returns-in_default-clause-crash
returns-in_default-clause-crash c = λ after out. (after, out, uncut c.args.len after)

pub returns-then-not-replace-clause-crash : goal.returns-then-not-replace-clause-crash
returns-then-not-replace-clause-crash c =
    let self = c.args.self.now in
    let cut : c.in-Ok.next.items ≡ take c.args.len self.bytes.items = search rules in
    replaced_crash self.bytes.items c.replace.new.file.items c.in-Ok.next.items self.others.items c.replace.new.others.items (Shortened c.args.len) (uncut c.args.len) (c.args.len, omega arith, cut)
    c.replace.result c.replace.ensures.done c.replace.ensures.undone

pub returns-clause-crash : goal.returns-clause-crash
returns-clause-crash c =
    let self = c.args.self.now in
    let cut : c.in-Ok.next.items ≡ take c.args.len self.bytes.items = search rules in
    replaced_crash self.bytes.items c.replace.new.file.items c.in-Ok.next.items self.others.items c.replace.new.others.items (Shortened c.args.len) (uncut c.args.len) (c.args.len, omega arith, cut)
    c.replace.result c.replace.ensures.done c.replace.ensures.undone

pub returns-clause-time : goal.returns-clause-time
returns-clause-time c =
    let self = c.args.self.now in
    time_stays self.past.items self.bytes.items c.replace.new.file.items self.others.items c.replace.new.others.items
    (replaced_kept self.bytes.items c.replace.new.file.items c.in-Ok.next.items self.others.items c.replace.new.others.items c.replace.result c.replace.ensures.done c.replace.ensures.undone)
