use Rattle.std.proofs.Common.{◌≡◌, ◌≢◌, ◌+◌, ◌-◌, ◌^◌, ◌<◌, take, get_or, length, min, max, sym, ap, ◌∙◌, subst, arith}
use Rattle.tree_model.specs.declared.limits.TheConstants.{MAX_DEPTH}
use Rattle.tree_model.specs.Key.{Key, is_key}
use Rattle.tree_model.specs.PathMap.{depth}
use Rattle.tree_model.specs.Tree.{Tree, null, count, IsLawful}
use Rattle.tree_model.specs.Children.{IsLawfulChild}
use Rattle.json_tree.proofs.Lists.{ord_max-nat, take_next}
use Rattle.json_tree.proofs.Sizes.{so_far_none, so_far_push, so_far_all, are_children, depth_is, count_is}
use Rattle.json_tree.proofs.node.sizes_of.Goals as goal

pub loop-child-init : goal.loop-child-init
loop-child-init c = so_far_none

pub loop-child-preserved : goal.loop-child-preserved
loop-child-preserved c =
    let all = c.deref-child-items.result.now in
    let i = c.loop-child.child-index in
    let child : Key × Tree = c.child-item.result in
    let at : child ≡ get_or c.args.children.now.items i child = c.child-item.is ∙ ap (λ cs. get_or cs i child) c.deref-child-items.ensures.value in
    let tree : c.node-node.result.now ≡ child.1 = c.node-node.ensures in
    let within = ap length c.deref-child-items.ensures.value in
    let room : depth child.1 < MAX_DEPTH = subst (λ (x : Key × Tree). depth x.1 < MAX_DEPTH) (sym at) (c.requires.room i child (omega arith)) in
    let lawful : IsLawfulChild child = record { key = ap is_key (sym c.key.ensures) ∙ c.text.ensures.lawful; tree = subst IsLawful tree c.law.ensures.lawful; depth = room } in
    let deeper : c.max-depth.result ≡ max c.loop-child.depth (depth child.1 + 1) = c.max-depth.ensures ∙ ord_max-nat c.loop-child.depth (c.depth.result + 1) ∙ ap (λ m. max c.loop-child.depth (m + 1)) (c.depth.ensures ∙ ap depth tree) in
    rw (take_next all i child (omega arith) c.child-item.is, deeper)
    (so_far_push (take i all) child c.loop-child.depth c.loop-child.count c.saturating_add-count.result (subst (λ (x : Tree). x ≢ null) tree c.law.ensures.some) lawful (c.saturating_add-count.ensures ∙ ap (λ m. min (c.loop-child.count + m) (2 ^ 64 - 1)) (c.count.ensures ∙ ap (λ (x : Tree). min (count x) (2 ^ 64 - 1)) tree)) c.loop-child.invariant)

pub returns-clause-children : goal.returns-clause-children
returns-clause-children c =
    let far = so_far_all _ _ _ _ _ c.loop-child-test.false c.deref-child-items.ensures.value c.loop-child.invariant in
    are_children _ _ _ c.requires.some c.requires.ascending far

pub returns-clause-lawful : goal.returns-clause-lawful
returns-clause-lawful c =
    let far = so_far_all _ _ _ _ _ c.loop-child-test.false c.deref-child-items.ensures.value c.loop-child.invariant in
    far.lawful

pub returns-clause-depth : goal.returns-clause-depth
returns-clause-depth c =
    let far = so_far_all _ _ _ _ _ c.loop-child-test.false c.deref-child-items.ensures.value c.loop-child.invariant in
    depth_is _ _ _ c.requires.some c.requires.ascending far

pub returns-clause-count : goal.returns-clause-count
returns-clause-count c =
    let far = so_far_all _ _ _ _ _ c.loop-child-test.false c.deref-child-items.ensures.value c.loop-child.invariant in
    count_is _ _ _ c.requires.some c.requires.ascending far
