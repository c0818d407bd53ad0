use Rattle.std.proofs.Common.{◌≡◌, map, take, length}
use Rattle.json_lines.proofs.Naming.{at_zero}
use Rattle.json_lines.proofs.draft_members.children_of.Given as goal

abbrev pub invariant-loop-entry : goal.invariant-loop-entry
invariant-loop-entry l = l.children.items ≡ map at_zero (take (length l.yielded) l.fn.held.items)
