use Rattle.std.proofs.Common.{◌≡◌, ◌+◌, map, get_or, ℤ, true, Err, sym, ap, ◌∙◌, subst, arith}
use Rattle.std.specs.Prelude.{pos}
use Rattle.std.specs.FinMap.{find}
use Rattle.tree_model.specs.Key.{Key, key_cmp}
use Rattle.tree_model.specs.Primitive.{Primitive, whole, is_whole}
use Rattle.tree_model.specs.PathMap.{greatest, depth}
use Rattle.tree_model.specs.Tree.{Tree, lone}
use Rattle.tree_model.specs.Draft.{tree_at}
use Rattle.tree_model.proofs.Grafts.{depth-graft}
use Rattle.json_tree.specs.Node.{tree_of, IsNode}
use Rattle.json_tree.specs.declared.node.Node.TheInside.{Inside}
use Rattle.json_tree.specs.Working.Marks.{drafted, AreMarks}
use Rattle.json_tree.proofs.Lists.{le-greatest}
use Rattle.json_tree.proofs.Nodes.{at_primitive, at_parent, parts_at_parent}
use Rattle.json_tree.proofs.Places.{searched}
use Rattle.json_tree.proofs.ChildEdits.{StandsAt}
use Rattle.json_tree.proofs.Stamping.{number_node, stamped_node, stamped-lone, marks_root, stamped_start, next_marks, stamped_next, stamped_end, is_there, child_marks, child_lawful, child_stamped}
use Rattle.json_tree.proofs.draft.+stamp.Goals as goal
use Rattle.json_tree.proofs.draft.+stamp.Goals.{stamp-in-Primitive+in-Words+in-Long-1, stamp-in-Primitive+in-Words+in-Short-1, stamp-in-Primitive+in-Truth-1, stamp-in-Parent}

-- ---- a node

pub stamp-stamp_below-requires : goal.stamp-stamp_below-requires
stamp-stamp_below-requires t c =
    let parts = parts_at_parent c.node.invariant.parts c.in-Parent.is in
    let is = at_parent c.node.view_is c.in-Parent.is in
    (omega arith, (c.requires.whole, (parts, subst (λ (t : Tree). AreMarks t c.args.marks.now) is c.requires.marks)))

pub stamp-invariant_of-node : goal.stamp-invariant_of-node
stamp-invariant_of-node t c =
    let number : (n : ℤ) → n ≡ pos c.args.now → is_whole n ≡ true = λ n is. ap is_whole is ∙ c.requires.whole in
    elim c.match-node.branch [
      | stamp-in-Primitive+in-Words+in-Long-1 w ↦ subst (λ (i : Inside). IsNode i.kind) (sym w.node-inside-is) (number_node w.number_of.result (number _ w.number_of.ensures))
      | stamp-in-Primitive+in-Words+in-Short-1 w ↦ subst (λ (i : Inside). IsNode i.kind) (sym w.node-inside-is) (number_node w.number_of.result (number _ w.number_of.ensures))
      | stamp-in-Primitive+in-Truth-1 w ↦ subst (λ (i : Inside). IsNode i.kind) (sym w.node-inside-is) (number_node w.number_of.result (number _ w.number_of.ensures))
      | stamp-in-Parent w ↦ subst (λ (i : Inside). IsNode i.kind) (sym w.node-inside-is) (stamped_node c.args.now c.args.marks.now c.node.invariant w.in-Parent.is w.stamp_below.new.children w.stamp_below.ensures.lawful w.stamp_below.ensures.stamped)
    ]

pub stamp-returns : goal.stamp-returns
stamp-returns t c =
    let now = c.args.now in
    let marks = c.args.marks.now in
    let number : (v : Primitive) (n : ℤ) → c.args.node.now ≡ lone v → n ≡ pos now → lone (whole n) ≡ tree_at now (drafted c.args.node.now marks) = λ v n is number_is.
    ap (λ z. lone (whole z)) number_is
    ∙ stamped-lone now v marks (subst (λ (u : Tree). AreMarks u marks) is c.requires.marks) c.law.ensures.some
    ∙ ap (λ u. tree_at now (drafted u marks)) (sym is) in
    elim c.match-node.branch [
      | stamp-in-Primitive+in-Words+in-Long-1 w ↦ ap (λ (i : Inside). tree_of i.kind) w.node-inside-is ∙ number _ _ (at_primitive c.node.view_is w.in-Primitive.is) w.number_of.ensures
      | stamp-in-Primitive+in-Words+in-Short-1 w ↦ ap (λ (i : Inside). tree_of i.kind) w.node-inside-is ∙ number _ _ (at_primitive c.node.view_is w.in-Primitive.is) w.number_of.ensures
      | stamp-in-Primitive+in-Truth-1 w ↦ ap (λ (i : Inside). tree_of i.kind) w.node-inside-is ∙ number _ _ (at_primitive c.node.view_is w.in-Primitive.is) w.number_of.ensures
      | stamp-in-Parent w ↦ ap (λ (i : Inside). tree_of i.kind) w.node-inside-is ∙ w.stamp_below.ensures.stamped ∙ ap (λ u. tree_at now (drafted u marks)) (sym (at_parent c.node.view_is w.in-Parent.is))
    ]

-- ---- its children

pub stamp_below-loop-marked-init : goal.stamp_below-loop-marked-init
stamp_below-loop-marked-init t c = stamped_start c.args.now c.args.children.now.items c.children-marked-items.result.now c.requires.lawful

pub stamp_below-stamp_child-requires : goal.stamp_below-stamp_child-requires
stamp_below-stamp_child-requires t c =
    let root = marks_root c.args.children.now.items c.args.marks.now c.requires.marks in
    let ms = c.children-marked-items.result.now in
    let marks = next_marks c.args.now c.args.children.now.items ms c.loop-marked.marked-index c.marked-item.result (c.children-marked-items.ensures.parent root).ascending (omega arith) c.marked-item.is c.args.marks.now c.requires.marks (c.children-marked-items.ensures.graft root) c.loop-marked.children.items c.loop-marked.invariant in
    let item : Key × Tree = c.marked-item.result in
    let less = le-greatest (λ (d : Key × Tree). depth d.1 + 1) ms c.loop-marked.marked-index item (omega arith) in
    let at : depth item.1 ≡ depth (get_or ms c.loop-marked.marked-index item).1 = ap (λ (d : Key × Tree). depth d.1) c.marked-item.is in
    let deep : depth c.args.marks.now ≡ greatest (map (λ (d : Key × Tree). depth d.1 + 1) ms) = ap depth (c.children-marked-items.ensures.graft root) ∙ depth-graft ms (c.children-marked-items.ensures.parent root) in
    (omega arith, (c.requires.whole, (c.loop-marked.invariant.lawful, marks)))

pub stamp_below-loop-marked-preserved : goal.stamp_below-loop-marked-preserved
stamp_below-loop-marked-preserved t c =
    let root = marks_root c.args.children.now.items c.args.marks.now c.requires.marks in
    let ms = c.children-marked-items.result.now in
    stamped_next c.args.now c.args.children.now.items ms c.loop-marked.marked-index c.marked-item.result (c.children-marked-items.ensures.parent root).ascending (omega arith) c.marked-item.is c.loop-marked.children.items c.stamp_child.new.children.items c.loop-marked.invariant c.stamp_child.ensures.lawful c.stamp_child.ensures.stamped

pub stamp_below-returns-clause-stamped : goal.stamp_below-returns-clause-stamped
stamp_below-returns-clause-stamped t c =
    let root = marks_root c.args.children.now.items c.args.marks.now c.requires.marks in
    stamped_end c.args.now c.args.children.now.items c.children-marked-items.result.now c.loop-marked.children.items c.args.marks.now c.loop-marked.marked-index (omega arith) (c.children-marked-items.ensures.graft root) c.loop-marked.invariant

-- ---- one child

pub stamp_child-stamp-requires : goal.stamp_child-stamp-requires
stamp_child-stamp-requires t c =
    let cs = c.args.children.now.items in
    let m : Key × Tree = c.args.marked.now in
    let was : Key × Tree = c.index_mut.result.now in
    let d : Key × Tree = c.deref_mut.result.now in
    let opened : was ≡ d = sym (c.deref_mut.ensures.value ∙ c.behind-children.view_is) in
    let stands : StandsAt cs c.in-Ok.index d c.text.result.now = subst (λ (x : Key × Tree). StandsAt cs c.in-Ok.index x c.text.result.now) opened (record { children = c.requires.lawful; within = c.in-Ok.ensures.bound; at = c.index_mut.ensures.value; tied = c.in-Ok.ensures.position was }) in
    let same : depth c.node-below.result.now ≡ depth c.args.marked.now.1 = ap depth c.node-below.ensures in
    (omega arith, (c.requires.whole, subst (λ (u : Tree). AreMarks d.1 u) (sym c.node-below.ensures) (child_marks cs c.in-Ok.index d m c.text.result.now stands (c.text.ensures.bytes ∙ c.key.ensures) c.requires.marks)))

pub stamp_child-unreachable-requires : goal.stamp_child-unreachable-requires
stamp_child-unreachable-requires t c =
    let cs = c.args.children.now.items in
    let sorted = c.requires.lawful.0.ascending in
    is_there cs c.args.marked.now sorted c.requires.marks (λ none. c.law.ensures.some (c.node-below.ensures ∙ none))
    (ap (λ k. find key_cmp k cs) (sym (c.text.ensures.bytes ∙ c.key.ensures)) ∙ searched c.text.result.now cs (Err c.in-Err.field-0) sorted c.in-Err.ensures.bound c.in-Err.ensures.position)

pub stamp_child-returns-clause-lawful : goal.stamp_child-returns-clause-lawful
stamp_child-returns-clause-lawful t c =
    let cs = c.args.children.now.items in
    let m : Key × Tree = c.args.marked.now in
    let was : Key × Tree = c.index_mut.result.now in
    let d : Key × Tree = c.deref_mut.result.now in
    let opened : was ≡ d = sym (c.deref_mut.ensures.value ∙ c.behind-children.view_is) in
    let stands : StandsAt cs c.in-Ok.index d c.text.result.now = subst (λ (x : Key × Tree). StandsAt cs c.in-Ok.index x c.text.result.now) opened (record { children = c.requires.lawful; within = c.in-Ok.ensures.bound; at = c.index_mut.ensures.value; tied = c.in-Ok.ensures.position was }) in
    child_lawful cs c.in-Ok.index d m c.text.result.now stands (c.text.ensures.bytes ∙ c.key.ensures) c.args.now c.stamp.new.node (c.stamp.ensures ∙ ap (λ u. tree_at c.args.now (drafted d.1 u)) c.node-below.ensures) c.requires.whole c.requires.marks

pub stamp_child-returns-clause-stamped : goal.stamp_child-returns-clause-stamped
stamp_child-returns-clause-stamped t c =
    let cs = c.args.children.now.items in
    let m : Key × Tree = c.args.marked.now in
    let was : Key × Tree = c.index_mut.result.now in
    let d : Key × Tree = c.deref_mut.result.now in
    let opened : was ≡ d = sym (c.deref_mut.ensures.value ∙ c.behind-children.view_is) in
    let stands : StandsAt cs c.in-Ok.index d c.text.result.now = subst (λ (x : Key × Tree). StandsAt cs c.in-Ok.index x c.text.result.now) opened (record { children = c.requires.lawful; within = c.in-Ok.ensures.bound; at = c.index_mut.ensures.value; tied = c.in-Ok.ensures.position was }) in
    child_stamped cs c.in-Ok.index d m c.text.result.now stands (c.text.ensures.bytes ∙ c.key.ensures) c.args.now c.stamp.new.node (c.stamp.ensures ∙ ap (λ u. tree_at c.args.now (drafted d.1 u)) c.node-below.ensures)
