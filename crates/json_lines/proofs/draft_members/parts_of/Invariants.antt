use Rattle.std.proofs.Common.{◌≡◌, take, length}
use Rattle.json_lines.proofs.draft_members.parts_of.Given as goal

abbrev pub invariant-loop-entry : goal.invariant-loop-entry
invariant-loop-entry l = l.children.items ≡ take (length l.yielded) l.fn.held.items
