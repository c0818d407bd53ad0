-- What a disk in memory has.
use Rattle.std.specs.Prelude.{ℕ, List}
use Rattle.disk.specs.Outcomes.{IsOutcome}
use Rattle.disk.specs.declared.memory_disk.MemoryDisk.{MemoryDisk}

-- what a read of it returns
abbrev pub memory_bytes : MemoryDisk → List ℕ
memory_bytes disk = disk.bytes.items

-- what a crash may leave of it
abbrev pub MemoryMayLeave : MemoryDisk → List ℕ → Type 0
MemoryMayLeave disk left = IsOutcome disk.bytes.items disk.others.items left
