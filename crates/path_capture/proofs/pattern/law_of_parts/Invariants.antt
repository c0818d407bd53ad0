use Rattle.std.proofs.Common.{◌≡◌, take, map}
use Rattle.path_capture.specs.Pattern.{part_of, part_text, part_of_text}
use Rattle.path_capture.proofs.pattern.law_of_parts.Given as goal

abbrev pub invariant-loop-part : goal.invariant-loop-part
invariant-loop-part l = map part_of_text (map part_text (map part_of (take l.part-index l.parts))) ≡ map part_of (take l.part-index l.parts)
