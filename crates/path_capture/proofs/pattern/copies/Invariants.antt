use Rattle.std.proofs.Common.{◌≡◌, take, map}
use Rattle.path_capture.specs.Pattern.{part_of}
use Rattle.path_capture.proofs.pattern.copies.Given as goal

abbrev pub invariant-loop-part : goal.invariant-loop-part
invariant-loop-part l = map part_of l.copies.items ≡ map part_of (take l.part-index l.parts)
