use Rattle.std.proofs.Common.{◌≡◌, [], ◌++◌, inr, arith}
use Rattle.disk.proofs.Outcomes.{time_settles}
use Rattle.disk.proofs.memory_disk.MemoryDiskDisk.sync.Goals as goal

pub returns-clause-time : goal.returns-clause-time
returns-clause-time c =
    let self = c.args.self.now in
    let later : c.append.new.self.items ≡ self.past.items ++ self.others.items = grind arith in
    let none : c.append.new.other.items ≡ [] = grind arith in
    time_settles self.past.items c.append.new.self.items self.bytes.items self.bytes.items self.others.items self.others.items c.append.new.other.items later none (λ left one. inr one) (λ left out. out)
