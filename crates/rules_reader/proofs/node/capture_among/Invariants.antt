use Rattle.std.proofs.Common.{◌≡◌, false, take}
use Rattle.std.specs.List.{list_any}
use Rattle.rules_reader.specs.Part.{is_capture}
use Rattle.rules_reader.specs.Node.{names}
use Rattle.rules_reader.proofs.node.capture_among.Given as goal

abbrev pub invariant-loop-place : goal.invariant-loop-place
invariant-loop-place l = list_any is_capture (names (take l.place l.child-items)) ≡ false
