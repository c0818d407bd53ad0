use Rattle.std.proofs.Common.{take}
use Rattle.entries.specs.Writes.{write_in}
use Rattle.entries.proofs.Lists.{AreRead}
use Rattle.entries.proofs.writes.writes_to_json.Given as goal

abbrev pub invariant-loop-write : goal.invariant-loop-write
invariant-loop-write l = AreRead write_in 34 l.items.items (take l.write-index l.writes)
