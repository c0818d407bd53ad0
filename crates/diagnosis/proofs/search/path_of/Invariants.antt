use Rattle.std.proofs.Common.{◌≡◌, take, map}
use Rattle.std.specs.Prelude.{string_bytes}
use Rattle.rules_reader.specs.Part.{texts}
use Rattle.diagnosis.specs.Finding.{path_of}
use Rattle.diagnosis.proofs.search.path_of.Given as goal

abbrev pub invariant-loop-i : goal.invariant-loop-i
invariant-loop-i l = map string_bytes l.path.items ≡ path_of (texts (take l.i l.pattern))
