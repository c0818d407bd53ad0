use Rattle.std.proofs.Common.{◌≡◌, take, string_bytes}
use Rattle.listeners.specs.Query.{joined}
use Rattle.listeners.proofs.order.joined.Given as goal

abbrev pub invariant-loop-i : goal.invariant-loop-i
invariant-loop-i l = string_bytes l.text ≡ joined (take l.i l.keys)
