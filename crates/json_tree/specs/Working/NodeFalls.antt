-- Each child is less deep than its parent.
use Rattle.std.specs.Prelude.{List, [], ◌∷◌, ◌≤◌, ◌+◌, max, map}
use Rattle.std.proofs.Common.{arith}
use denote.Param.Weighed.{most}
use Rattle.tree_model.specs.Key.{Key}
use Rattle.tree_model.specs.PathMap.{greatest, depth}
use Rattle.tree_model.specs.Tree.{Tree}
use Rattle.tree_model.proofs.Grafts.{depth-graft}
use Rattle.json_tree.specs.Node.{tree_of, IsKind, IsNode}
use Rattle.json_tree.specs.declared.node.NodeKind.{NodeKind}
use Rattle.json_tree.specs.declared.node.NodeKind.TheVariants.{Primitive, Parent}
use Rattle.json_tree.specs.declared.node.Child.TheDeep.{deep-NodeKind}

-- children weigh at most twice what the deepest of them is deep, with its key
most_le-greatest : (cs : List (Key × Tree)) → most (λ c. depth c.1 + depth c.1 + 1 + 1) cs ≤ greatest (map (λ c. depth c.1 + 1) cs) + greatest (map (λ c. depth c.1 + 1) cs)
most_le-greatest [] = omega arith
most_le-greatest (c ∷ cs) = omega (arith, most_le-greatest cs)

-- what a node holds weighs at most twice its depth
kind_falls : (k : NodeKind) → IsKind k → max (deep-NodeKind k) 0 ≤ depth (tree_of k) + depth (tree_of k)
kind_falls (Primitive leaf) h = omega arith
kind_falls (Parent cs deep many) h = omega (arith, most_le-greatest cs.items, depth-graft cs.items h.0)

-- a node's children weigh at most twice the depth of its tree
pub falls : (k : NodeKind) → IsNode k → max (deep-NodeKind k) 0 ≤ depth (tree_of k) + depth (tree_of k)
falls k h = kind_falls k h.parts
