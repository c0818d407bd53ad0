use Rattle.std.proofs.Common.{◌≡◌, ◌+◌, ◌*◌, ◌∷◌, ◌++◌, drop, map}
use Rattle.json.specs.Token.{begin_object}
use Rattle.tree_model.specs.PathMap.{greatest, depth}
use Rattle.json_tree.proofs.Texts.{children_tokens}
use Rattle.json_tree.proofs.json_text.+write.Given as goal

abbrev pub decreases-write_node : goal.decreases-write_node
decreases-write_node l = 2 * depth l.node.now + 1

abbrev pub decreases-write_children : goal.decreases-write_children
decreases-write_children l = 2 * greatest (map (λ c. depth c.1 + 1) l.children.now)

abbrev pub invariant-write_children-loop-child : goal.invariant-write_children-loop-child
invariant-write_children-loop-child l =
    (l.out.before ≡ l.fn.out.before)
    × (l.out.tokens ++ children_tokens (drop l.child-index l.children) ≡ l.fn.out.tokens ++ begin_object ∷ children_tokens l.children)
