use Rattle.std.proofs.Common.{◌≡◌, ◌+◌, get_or, length, ap, ◌∙◌, arith}
use Rattle.std.proofs.lemmas.Bool.Decides.{nat_tests}
use Rattle.tree_model.specs.Key.{Key}
use Rattle.tree_model.specs.PathMap.{depth}
use Rattle.tree_model.specs.Tree.{Tree}
use Rattle.json_tree.proofs.Lists.{le-greatest}
use Rattle.json_tree.proofs.share.is_as_deep.Goals as goal

pub returns-then-depth-wanted : goal.returns-then-depth-wanted
returns-then-depth-wanted c =
    let cs = c.args.children.now.items in
    let i = c.loop-child.child-index in
    let child : Key × Tree = c.child-item.result in
    let at : child ≡ get_or cs i child = c.child-item.is ∙ ap (λ xs. get_or xs i child) c.deref-child-items.ensures.value in
    let within = ap length c.deref-child-items.ensures.value in
    let le = le-greatest (λ (x : Key × Tree). depth x.1 + 1) cs i child (omega arith) in
    let deep = ap (λ (x : Key × Tree). depth x.1 + 1) at in
    let is = c.depth.ensures ∙ ap depth c.node-node.ensures in
    grind (arith, nat_tests)
