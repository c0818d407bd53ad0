use Rattle.std.proofs.Common.{◌≡◌, ◌+◌, ◌*◌, take, map}
use Rattle.tree_model.specs.PathMap.{greatest, depth}
use Rattle.json_tree.proofs.node.+copy.Given as goal

abbrev pub decreases-Node::copy : goal.decreases-Node::copy
decreases-Node::copy l = 3 * depth l.self.now + 2

abbrev pub decreases-copy_of : goal.decreases-copy_of
decreases-copy_of l = 3 * greatest (map (λ c. depth c.1 + 1) l.children.now.items) + 1

abbrev pub decreases-Child::copy : goal.decreases-Child::copy
decreases-Child::copy l = 3 * depth l.self.now.1 + 3

abbrev pub invariant-copy_of-loop-child : goal.invariant-copy_of-loop-child
invariant-copy_of-loop-child l = l.copies.items ≡ take l.child-index l.child-items
