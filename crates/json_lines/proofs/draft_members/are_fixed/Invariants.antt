use Rattle.std.proofs.Common.{take}
use Rattle.std.specs.List.{AllByRecursion}
use Rattle.tree_model.specs.Draft.{IsFixed}
use Rattle.json_lines.proofs.draft_members.are_fixed.Given as goal

abbrev pub invariant-loop-entry : goal.invariant-loop-entry
invariant-loop-entry l = AllByRecursion (λ entry. IsFixed entry.1) (take l.entry-index l.entries)
