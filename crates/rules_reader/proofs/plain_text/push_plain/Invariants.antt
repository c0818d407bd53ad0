use Rattle.std.proofs.Common.{◌≡◌, ◌++◌, map, take}
use Rattle.rules_reader.specs.Working.Front.{becomes_in}
use Rattle.rules_reader.proofs.plain_text.push_plain.Given as goal

abbrev pub invariant-loop-byte : goal.invariant-loop-byte
invariant-loop-byte l = l.text.items ≡ l.fn.text.items ++ map (becomes_in l.kind) (take l.byte-index l.piece)
