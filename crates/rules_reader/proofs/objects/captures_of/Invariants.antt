use Rattle.std.proofs.Common.{◌≡◌, take}
use Rattle.path_capture.specs.Captures.{names}
use Rattle.rules_reader.specs.Part.{texts}
use Rattle.rules_reader.specs.Spelled.{capture_names}
use Rattle.rules_reader.proofs.objects.captures_of.Given as goal

abbrev pub invariant-loop-i : goal.invariant-loop-i
invariant-loop-i l = names l.captures ≡ capture_names (texts (take l.i l.pattern))
