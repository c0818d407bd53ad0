use Rattle.std.proofs.Common.{◌≡◌, ◌++◌, take}
use Rattle.std.specs.Prelude.{string_bytes}
use Rattle.path_capture.proofs.Parts.{text_of_parts}
use Rattle.path_capture.proofs.pattern.append_parts.Given as goal

-- behind what stood there are the parts so far
abbrev pub invariant-loop-part : goal.invariant-loop-part
invariant-loop-part l = string_bytes l.text ≡ string_bytes l.fn.text ++ text_of_parts (take l.part-index l.parts)
