use Rattle.std.proofs.Common.{◌≡◌, map, take, length}
use Rattle.json_lines.proofs.Naming.{as_drafted}
use Rattle.json_lines.proofs.children.drafts_of.Given as goal

abbrev pub invariant-loop-child : goal.invariant-loop-child
invariant-loop-child l = l.drafts.items ≡ map as_drafted l.yielded
