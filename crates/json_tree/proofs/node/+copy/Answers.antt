use Rattle.std.proofs.Common.{◌≡◌, ◌+◌, map, get_or, ap, ◌∙◌, arith}
use Rattle.tree_model.specs.Key.{Key}
use Rattle.tree_model.specs.PathMap.{greatest, depth}
use Rattle.tree_model.specs.Tree.{Tree}
use Rattle.tree_model.proofs.Grafts.{depth-graft}
use Rattle.json_tree.proofs.Lists.{le-greatest}
use Rattle.json_tree.proofs.Nodes.{at_parent, parts_at_parent}
use Rattle.json_tree.proofs.node.+copy.Goals as goal

-- the children are less deep than their parent
pub Node::copy-copy_of-requires : goal.Node::copy-copy_of-requires
Node::copy-copy_of-requires t c =
    let parts = parts_at_parent c.self.invariant.parts c.in-Parent.is in
    let deep : depth c.args.self.now ≡ greatest (map (λ d. depth d.1 + 1) c.in-Parent.children.items) = ap depth (at_parent c.self.view_is c.in-Parent.is) ∙ depth-graft _ parts.0 in
    (omega arith, tt)

-- and each is at most as deep as the deepest
pub copy_of-copy-requires : goal.copy_of-copy-requires
copy_of-copy-requires t c =
    let items = c.deref-child-items.result.now in
    let item : Key × Tree = c.child-item.result in
    let i = c.loop-child.child-index in
    let less = le-greatest (λ (d : Key × Tree). depth d.1 + 1) items i item (omega arith) in
    let at : depth item.1 ≡ depth (get_or items i item).1 = ap (λ (d : Key × Tree). depth d.1) c.child-item.is in
    let all = ap (λ ds. greatest (map (λ (d : Key × Tree). depth d.1 + 1) ds)) c.deref-child-items.ensures.value in
    (omega arith, tt)
