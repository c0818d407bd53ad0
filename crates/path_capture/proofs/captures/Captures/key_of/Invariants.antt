use Rattle.std.proofs.Common.{◌≡◌, drop, map}
use Rattle.path_capture.specs.Captures.{bound, key_named}
use Rattle.path_capture.proofs.captures.Captures.key_of.Given as goal

-- the captures before bear other names
abbrev pub invariant-loop-binding : goal.invariant-loop-binding
invariant-loop-binding g l = key_named l.name (map bound (drop l.binding-index l.binding-items)) ≡ key_named l.name l.self
