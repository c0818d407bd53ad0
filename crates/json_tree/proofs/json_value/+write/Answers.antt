use Rattle.std.proofs.Common.{◌≡◌, ◌+◌, get_or, sym, ap, ◌∙◌, arith}
use Rattle.std.proofs.lemmas.Result.{IfOk-weaker}
use Rattle.serde_json.specs.Data.{object}
use Rattle.serde_json.specs.View.{view, members_view}
use Rattle.serde_json.proofs.Views.{view-Object}
use Rattle.tree_model.specs.Key.{Key}
use Rattle.tree_model.specs.PathMap.{depth}
use Rattle.tree_model.specs.Tree.{Tree}
use Rattle.tree_model.proofs.Grafts.{depth-graft}
use Rattle.json_tree.specs.Leaf.{primitive_of}
use Rattle.json_tree.specs.Json.{value_of}
use Rattle.json_tree.proofs.Lists.{le-greatest}
use Rattle.json_tree.proofs.Written.{value_of-root, value_of-graft, next_written}
use Rattle.json_tree.proofs.json_value.+write.Goals as goal

pub write-write_children-requires : goal.write-write_children-requires
write-write_children-requires t c =
    let parent = c.children.ensures.parent (sym c.in-None.ensures) in
    let deep = ap depth (c.children.ensures.graft (sym c.in-None.ensures)) ∙ depth-graft c.children.result.now parent in
    (omega arith, parent.ascending)

pub write-returns-in-Some : goal.write-returns-in-Some
write-returns-in-Some t c =
    IfOk-weaker c.write_leaf.result _ _ (λ value is. is ∙ sym (value_of-root c.args.node.now (primitive_of c.in-Some.leaf.now) (sym c.in-Some.ensures))) c.write_leaf.ensures

pub write-returns-in_ok-write_children-in-None : goal.write-returns-in_ok-write_children-in-None
write-returns-in_ok-write_children-in-None t c =
    let parent = c.children.ensures.parent (sym c.in-None.ensures) in
    view-Object c.in_ok-write_children-in-None.field-0 ∙ ap object c.in_ok-write_children-in-None.ensures
    ∙ sym (value_of-graft c.children.result.now parent) ∙ ap value_of (sym (c.children.ensures.graft (sym c.in-None.ensures)))

pub write_children-write-requires : goal.write_children-write-requires
write_children-write-requires t c =
    let cs = c.args.children.now in
    let child : Key × Tree = c.child-item.result in
    let i = c.loop-child.child-index in
    let less = le-greatest (λ (d : Key × Tree). depth d.1 + 1) cs i child (omega arith) in
    let at : depth c.node-node.result.now ≡ depth (get_or cs i child).1 = ap depth c.node-node.ensures ∙ ap (λ (d : Key × Tree). depth d.1) c.child-item.is in
    (omega arith, tt)

pub write_children-loop-child-preserved : goal.write_children-loop-child-preserved
write_children-loop-child-preserved t c =
    let child : Key × Tree = c.child-item.result in
    next_written c.args.children.now c.loop-child.child-index child c.text.result.now (view c.in_ok-write.field-0) (members_view c.loop-child.members.entries) (members_view c.put.new.map.entries) c.requires (omega arith) c.child-item.is (c.text.ensures.bytes ∙ c.key-key.ensures) (c.in_ok-write.ensures ∙ ap value_of c.node-node.ensures) c.loop-child.invariant c.in_ok-put.ensures.ok
