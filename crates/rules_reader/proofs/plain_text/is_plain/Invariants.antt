use Rattle.std.proofs.Common.{◌≡◌, take}
use Rattle.std.specs.List.{list_all}
use Rattle.rules_reader.proofs.Unchanged.{stays}
use Rattle.rules_reader.proofs.plain_text.is_plain.Given as goal

abbrev pub invariant-loop-byte : goal.invariant-loop-byte
invariant-loop-byte l = l.is_plain ≡ list_all stays (take l.byte-index l.file)
