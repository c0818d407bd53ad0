use Rattle.std.proofs.Common.{◌≡◌, ◌+◌, ◌++◌, OnOk, get_or, sym, ap, ◌∙◌, subst, arith}
use Rattle.json.specs.Tree.{json_tokens}
use Rattle.serde_json.specs.Written.{outline}
use Rattle.tree_model.specs.Key.{Key}
use Rattle.tree_model.specs.PathMap.{depth}
use Rattle.tree_model.specs.Tree.{Tree}
use Rattle.tree_model.proofs.Grafts.{depth-graft}
use Rattle.json_tree.specs.Leaf.{primitive_of}
use Rattle.json_tree.specs.Json.{value_of}
use Rattle.json_tree.proofs.Lists.{le-greatest}
use Rattle.json_tree.proofs.Written.{value_of-root, value_of-graft}
use Rattle.json_tree.proofs.json_text.+write.Goals as goal

pub write_node-write_children-requires : goal.write_node-write_children-requires
write_node-write_children-requires t c =
    let parent = c.children.ensures.parent (sym c.in-None.ensures) in
    let deep = ap depth (c.children.ensures.graft (sym c.in-None.ensures)) ∙ depth-graft c.children.result.now parent in
    (omega arith, tt)

pub write_children-write_node-requires : goal.write_children-write_node-requires
write_children-write_node-requires t c =
    let cs = c.args.children.now in
    let child : Key × Tree = c.child-item.result in
    let i = c.loop-child.child-index in
    let less = le-greatest (λ (d : Key × Tree). depth d.1 + 1) cs i child (omega arith) in
    let at : depth c.node-node.result.now ≡ depth (get_or cs i child).1 = ap depth c.node-node.ensures ∙ ap (λ (d : Key × Tree). depth d.1) c.child-item.is in
    (omega arith, tt)

pub write_node-returns-in-Some-clause-tokens : goal.write_node-returns-in-Some-clause-tokens
write_node-returns-in-Some-clause-tokens t c =
    let is = value_of-root c.args.node.now (primitive_of c.in-Some.leaf.now) (sym c.in-Some.ensures) in
    subst (λ d. OnOk c.write_leaf.result (c.write_leaf.new.out.tokens ≡ c.args.out.now.tokens ++ json_tokens (outline d))) (sym is) c.write_leaf.ensures.tokens

pub write_node-returns-in-None-clause-tokens : goal.write_node-returns-in-None-clause-tokens
write_node-returns-in-None-clause-tokens t c =
    let is = ap value_of (c.children.ensures.graft (sym c.in-None.ensures)) ∙ value_of-graft c.children.result.now (c.children.ensures.parent (sym c.in-None.ensures)) in
    subst (λ d. OnOk c.write_children.result (c.write_children.new.out.tokens ≡ c.args.out.now.tokens ++ json_tokens (outline d))) (sym is) c.write_children.ensures.tokens
