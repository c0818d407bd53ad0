use Rattle.std.proofs.Common.{◌≡◌, take}
use Rattle.path_capture.proofs.path.begun.Given as goal

abbrev pub invariant-loop-key : goal.invariant-loop-key
invariant-loop-key l = l.keys.items ≡ take l.key-index l.front
