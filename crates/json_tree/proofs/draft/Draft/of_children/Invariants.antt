use Rattle.std.proofs.Common.{length}
use Rattle.json_tree.proofs.Grafting.{AreSplit}
use Rattle.json_tree.proofs.draft.Draft.of_children.Given as goal

abbrev pub invariant-loop-key : goal.invariant-loop-key
invariant-loop-key l = AreSplit l.fn.children.items (length l.yielded) l.nodes.items l.marked.items
