use Rattle.std.proofs.Common.{◌≡◌, ◌≢◌, ◌<◌, ◌∷◌, [], length, sym, ap, ◌∙◌, subst, refl, arith}
use Rattle.std.specs.List.{remove}
use Rattle.std.proofs.lemmas.Bool.Decides.{nat_tests}
use Rattle.std.proofs.lemmas.List.{nil_from_length, length-set}
use Rattle.tree_model.specs.declared.limits.TheConstants.{MAX_DEPTH}
use Rattle.tree_model.specs.Key.{Key}
use Rattle.tree_model.specs.PathMap.{depth}
use Rattle.tree_model.specs.Tree.{Tree, null, IsLawful}
use Rattle.tree_model.specs.Children.{graft}
use Rattle.tree_model.specs.Put.{merged}
use Rattle.tree_model.proofs.Lawful.{IsLawful-graft}
use Rattle.json_tree.specs.Leaf.{primitive_of}
use Rattle.json_tree.specs.Node.{AreLawfulChildren}
use Rattle.json_tree.proofs.Nodes.{at_primitive, parts_at_parent}
use Rattle.json_tree.proofs.Edits.{first_and_rest}
use Rattle.json_tree.proofs.Proposing.{merged-root, removed-lone, depth-removed}
use Rattle.json_tree.proofs.ChildEdits.{StandsAt, depth_there, children-set, graft-set, set_same, children-remove, graft-remove, last_vanishes, missing_at, nothing_there}
use Rattle.json_tree.proofs.Shares.{IsShareOf, size_of_node, set_there, exchanges-set, exchanges-remove, exchanges-none}
use Rattle.json_tree.proofs.puts.+remove.Goals as goal

-- ---- a node

pub remove-remove_below-requires : goal.remove-remove_below-requires
remove-remove_below-requires t c =
    let long = ap length (first_and_rest c.args.path.now c.key-item.result (omega arith) c.key-item.is) in
    (omega arith, parts_at_parent c.node.invariant.parts c.in-Parent.is)

pub remove-sizes_after-depth_after-requires-clause-sizes : goal.remove-sizes_after-depth_after-requires-clause-sizes
remove-sizes_after-depth_after-requires-clause-sizes t c = (c.in-Parent.children.items, size_of_node c.node.invariant c.in-Parent.is, c.in-Some.ensures.exchange)

pub remove-invariant_of-node-2 : goal.remove-invariant_of-node-2
remove-invariant_of-node-2 t c =
    let children = c.remove_below.ensures.children in
    let sizes = c.sizes_after-depth_after.ensures in
    record { parts = children; lawful = IsLawful-graft _ children.0.ascending children.1; sized = record { depth = sizes.depth; count = sizes.count } }

pub remove-returns-in_default-clause-gone : goal.remove-returns-in_default-clause-gone
remove-returns-in_default-clause-gone t c =
    let none = nil_from_length c.args.path.now (omega arith) in
    ap (λ p. merged c.args.node.now ((p, null) ∷ [])) none ∙ merged-root c.args.node.now null

pub remove-returns-in_default-kind-clause-left : goal.remove-returns-in_default-kind-clause-left
remove-returns-in_default-kind-clause-left t c =
    let path = first_and_rest c.args.path.now c.key-item.result (omega arith) c.key-item.is in
    let node = at_primitive c.node.view_is c.in_default-kind.is in
    c.node.view_is
    ∙ node
    ∙ sym (removed-lone (primitive_of c.in_default-kind.field-0) c.key-item.result _)
    ∙ sym (λ i. merged (node i) ((path i, null) ∷ []))

-- ---- its children

-- the child is still there
pub remove_below-returns-then-not-remove-clause-children : goal.remove_below-returns-then-not-remove-clause-children
remove_below-returns-then-not-remove-clause-children t c =
    let cs = c.args.children.now.items in
    let was : Key × Tree = c.index_mut.result.now in
    let d : Key × Tree = c.deref_mut.result.now in
    let opened : was ≡ d = sym (c.deref_mut.ensures.value ∙ c.behind-children.view_is) in
    let found : StandsAt cs c.in-Ok.index d c.text.result.now = subst (λ (x : Key × Tree). StandsAt cs c.in-Ok.index x c.text.result.now) opened (record { children = c.requires; within = c.in-Ok.ensures.bound; at = c.index_mut.ensures.value; tied = c.in-Ok.ensures.position was }) in
    let was = depth_there found in
    let le = depth-removed d.1 c.args.rest.now in
    let is = ap depth c.if-not-remove.ensures.left in
    let room : depth c.remove.new.node < MAX_DEPTH = omega arith in
    let after = set_there cs c.in-Ok.index (d.0, c.remove.new.node) c.index-then-not-remove.result.now c.in-Ok.ensures.bound c.index-then-not-remove.ensures in
    let there : c.node-then-not-remove.result.now ≡ c.remove.new.node = c.node-then-not-remove.ensures ∙ ap (λ (x : Key × Tree). x.1) after in
    children-set found c.remove.new.node (subst (λ (x : Tree). x ≢ null) there c.share_of-after.ensures.some) (subst IsLawful there c.share_of-after.ensures.lawful) room

pub remove_below-returns-then-not-remove-clause-exchange : goal.remove_below-returns-then-not-remove-clause-exchange
remove_below-returns-then-not-remove-clause-exchange t c =
    let cs = c.args.children.now.items in
    let was : Key × Tree = c.index_mut.result.now in
    let d : Key × Tree = c.deref_mut.result.now in
    let opened : was ≡ d = sym (c.deref_mut.ensures.value ∙ c.behind-children.view_is) in
    let after = set_there cs c.in-Ok.index (d.0, c.remove.new.node) c.index-then-not-remove.result.now c.in-Ok.ensures.bound c.index-then-not-remove.ensures in
    let there : c.node-then-not-remove.result.now ≡ c.remove.new.node = c.node-then-not-remove.ensures ∙ ap (λ (x : Key × Tree). x.1) after in
    let before = c.share_of-before.ensures in
    let later = c.share_of-after.ensures in
    exchanges-set cs c.in-Ok.index _ c.index.result.now d.0 c.remove.new.node c.in-Ok.ensures.bound c.index.ensures
    (subst (λ (x : Tree). IsShareOf x c.share_of-before.result.depth c.share_of-before.result.count) c.node.ensures (record { depth = before.depth; count = before.count }))
    (subst (λ (x : Tree). IsShareOf x c.share_of-after.result.depth c.share_of-after.result.count) there (record { depth = later.depth; count = later.count }))

pub remove_below-returns-then-not-remove-clause-left : goal.remove_below-returns-then-not-remove-clause-left
remove_below-returns-then-not-remove-clause-left t c =
    let was : Key × Tree = c.index_mut.result.now in
    let d : Key × Tree = c.deref_mut.result.now in
    let opened : was ≡ d = sym (c.deref_mut.ensures.value ∙ c.behind-children.view_is) in
    let found : StandsAt c.args.children.now.items c.in-Ok.index d c.text.result.now = subst (λ (x : Key × Tree). StandsAt c.args.children.now.items c.in-Ok.index x c.text.result.now) opened (record { children = c.requires; within = c.in-Ok.ensures.bound; at = c.index_mut.ensures.value; tied = c.in-Ok.ensures.position was }) in
    graft-set found c.args.rest.now c.remove.new.node null c.if-not-remove.ensures.left ∙ ap (λ k. merged (graft c.args.children.now.items) ((k ∷ c.args.rest.now, null) ∷ [])) c.text.ensures.bytes

-- the child was the only one
pub remove_below-returns-then-is_only_child-clause-children : goal.remove_below-returns-then-is_only_child-clause-children
remove_below-returns-then-is_only_child-clause-children t c =
    let was : Key × Tree = c.index_mut.result.now in
    let d : Key × Tree = c.deref_mut.result.now in
    let opened : was ≡ d = sym (c.deref_mut.ensures.value ∙ c.behind-children.view_is) in
    let found : StandsAt c.args.children.now.items c.in-Ok.index d c.text.result.now = subst (λ (x : Key × Tree). StandsAt c.args.children.now.items c.in-Ok.index x c.text.result.now) opened (record { children = c.requires; within = c.in-Ok.ensures.bound; at = c.index_mut.ensures.value; tied = c.in-Ok.ensures.position was }) in
    subst AreLawfulChildren (sym (set_same found c.remove.new.node c.if-not-remove.ensures.same)) c.requires

pub remove_below-returns-then-is_only_child-clause-gone : goal.remove_below-returns-then-is_only_child-clause-gone
remove_below-returns-then-is_only_child-clause-gone t c =
    let was : Key × Tree = c.index_mut.result.now in
    let d : Key × Tree = c.deref_mut.result.now in
    let opened : was ≡ d = sym (c.deref_mut.ensures.value ∙ c.behind-children.view_is) in
    let found : StandsAt c.args.children.now.items c.in-Ok.index d c.text.result.now = subst (λ (x : Key × Tree). StandsAt c.args.children.now.items c.in-Ok.index x c.text.result.now) opened (record { children = c.requires; within = c.in-Ok.ensures.bound; at = c.index_mut.ensures.value; tied = c.in-Ok.ensures.position was }) in
    let long = length-set c.args.children.now.items c.in-Ok.index (d.0, c.remove.new.node) in
    let one : length c.args.children.now.items ≡ 1 = grind (arith, nat_tests) in
    ap (λ k. merged (graft c.args.children.now.items) ((k ∷ c.args.rest.now, null) ∷ [])) (sym c.text.ensures.bytes) ∙ last_vanishes found c.args.rest.now one c.if-not-remove.ensures.gone

pub remove_below-returns-then-is_only_child-clause-same : goal.remove_below-returns-then-is_only_child-clause-same
remove_below-returns-then-is_only_child-clause-same t c =
    let was : Key × Tree = c.index_mut.result.now in
    let d : Key × Tree = c.deref_mut.result.now in
    let opened : was ≡ d = sym (c.deref_mut.ensures.value ∙ c.behind-children.view_is) in
    let found : StandsAt c.args.children.now.items c.in-Ok.index d c.text.result.now = subst (λ (x : Key × Tree). StandsAt c.args.children.now.items c.in-Ok.index x c.text.result.now) opened (record { children = c.requires; within = c.in-Ok.ensures.bound; at = c.index_mut.ensures.value; tied = c.in-Ok.ensures.position was }) in
    set_same found c.remove.new.node c.if-not-remove.ensures.same

-- the child is taken out
pub remove_below-returns-else-is_only_child-clause-children : goal.remove_below-returns-else-is_only_child-clause-children
remove_below-returns-else-is_only_child-clause-children t c =
    let was : Key × Tree = c.index_mut.result.now in
    let d : Key × Tree = c.deref_mut.result.now in
    let opened : was ≡ d = sym (c.deref_mut.ensures.value ∙ c.behind-children.view_is) in
    let found : StandsAt c.args.children.now.items c.in-Ok.index d c.text.result.now = subst (λ (x : Key × Tree). StandsAt c.args.children.now.items c.in-Ok.index x c.text.result.now) opened (record { children = c.requires; within = c.in-Ok.ensures.bound; at = c.index_mut.ensures.value; tied = c.in-Ok.ensures.position was }) in
    let items = c.remove-in-Ok.ensures.items ∙ ap (λ ds. remove ds c.in-Ok.index) (set_same found c.remove.new.node c.if-not-remove.ensures.same) in
    let long = length-set c.args.children.now.items c.in-Ok.index (d.0, c.remove.new.node) in
    let more : length c.args.children.now.items ≢ 1 = grind (arith, nat_tests) in
    subst AreLawfulChildren (sym items) (children-remove found more)

pub remove_below-returns-else-is_only_child-clause-exchange : goal.remove_below-returns-else-is_only_child-clause-exchange
remove_below-returns-else-is_only_child-clause-exchange t c =
    let cs = c.args.children.now.items in
    let was : Key × Tree = c.index_mut.result.now in
    let d : Key × Tree = c.deref_mut.result.now in
    let opened : was ≡ d = sym (c.deref_mut.ensures.value ∙ c.behind-children.view_is) in
    let found : StandsAt cs c.in-Ok.index d c.text.result.now = subst (λ (x : Key × Tree). StandsAt cs c.in-Ok.index x c.text.result.now) opened (record { children = c.requires; within = c.in-Ok.ensures.bound; at = c.index_mut.ensures.value; tied = c.in-Ok.ensures.position was }) in
    let items = c.remove-in-Ok.ensures.items ∙ ap (λ ds. remove ds c.in-Ok.index) (set_same found c.remove.new.node c.if-not-remove.ensures.same) in
    let before = c.share_of-before.ensures in
    rw (items) (exchanges-remove cs c.in-Ok.index _ c.index.result.now c.in-Ok.ensures.bound c.index.ensures (subst (λ (x : Tree). IsShareOf x c.share_of-before.result.depth c.share_of-before.result.count) c.node.ensures (record { depth = before.depth; count = before.count })) refl refl)

pub remove_below-returns-else-is_only_child-clause-left : goal.remove_below-returns-else-is_only_child-clause-left
remove_below-returns-else-is_only_child-clause-left t c =
    let was : Key × Tree = c.index_mut.result.now in
    let d : Key × Tree = c.deref_mut.result.now in
    let opened : was ≡ d = sym (c.deref_mut.ensures.value ∙ c.behind-children.view_is) in
    let found : StandsAt c.args.children.now.items c.in-Ok.index d c.text.result.now = subst (λ (x : Key × Tree). StandsAt c.args.children.now.items c.in-Ok.index x c.text.result.now) opened (record { children = c.requires; within = c.in-Ok.ensures.bound; at = c.index_mut.ensures.value; tied = c.in-Ok.ensures.position was }) in
    let items = c.remove-in-Ok.ensures.items ∙ ap (λ ds. remove ds c.in-Ok.index) (set_same found c.remove.new.node c.if-not-remove.ensures.same) in
    ap graft items ∙ graft-remove found c.args.rest.now c.if-not-remove.ensures.gone ∙ ap (λ k. merged (graft c.args.children.now.items) ((k ∷ c.args.rest.now, null) ∷ [])) c.text.ensures.bytes

-- there is no such child
pub remove_below-returns-in-Err-clause-exchange : goal.remove_below-returns-in-Err-clause-exchange
remove_below-returns-in-Err-clause-exchange t c = exchanges-none c.args.children.now.items _ refl refl refl refl

pub remove_below-returns-in-Err-clause-left : goal.remove_below-returns-in-Err-clause-left
remove_below-returns-in-Err-clause-left t c =
    let missing = missing_at c.args.children.now.items c.in-Err.field-0 c.text.result.now c.requires c.in-Err.ensures.bound c.in-Err.ensures.position in
    nothing_there missing c.args.rest.now ∙ ap (λ k. merged (graft c.args.children.now.items) ((k ∷ c.args.rest.now, null) ∷ [])) c.text.ensures.bytes
