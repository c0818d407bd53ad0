use Rattle.std.proofs.Common.{◌≡◌, ◌+◌, ◌*◌, ◌∷◌, ◌++◌, drop}
use Rattle.json.specs.Token.{begin_object}
use Rattle.tree_model.specs.PathMap.{depth}
use Rattle.json_tree.proofs.Texts.{children_tokens}
use Rattle.arena_snapshot.specs.Working.Change.{entries_of}
use Rattle.arena_snapshot.proofs.texts.+write.Given as goal

abbrev pub decreases-write_tree : goal.decreases-write_tree
decreases-write_tree l = 2 * depth l.view.now + 1

abbrev pub decreases-write_children : goal.decreases-write_children
decreases-write_children l = 2 * depth l.view.now

-- what is written, and what is yet to come, are the whole
abbrev pub invariant-write_children-loop-i : goal.invariant-write_children-loop-i
invariant-write_children-loop-i l =
    (l.out.before ≡ l.fn.out.before)
    × (l.out.tokens ++ children_tokens (drop l.i (entries_of l.view)) ≡ l.fn.out.tokens ++ begin_object ∷ children_tokens (entries_of l.view))
