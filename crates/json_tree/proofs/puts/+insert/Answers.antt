use Rattle.std.proofs.Common.{◌≡◌, ◌≢◌, ◌+◌, ◌-◌, ◌<◌, true, ◌∷◌, [], length, take, drop, sym, ap, ◌∙◌, subst, refl, arith}
use Rattle.std.specs.List.{insert}
use Rattle.std.specs.Result.{is_ok}
use Rattle.std.proofs.lemmas.Bool.{false≢true}
use Rattle.std.proofs.lemmas.List.{nil_from_length}
use Rattle.tree_model.specs.declared.limits.TheConstants.{MAX_DEPTH}
use Rattle.tree_model.specs.Key.{Key, is_key}
use Rattle.tree_model.specs.PathMap.{sub, exists, depth}
use Rattle.tree_model.specs.Tree.{Tree, null, IsLawful}
use Rattle.tree_model.specs.Children.{graft}
use Rattle.tree_model.specs.Put.{merged}
use Rattle.tree_model.proofs.Lookups.{sub-root}
use Rattle.tree_model.proofs.Lawful.{IsLawful-graft}
use Rattle.json_tree.specs.Leaf.{primitive_of}
use Rattle.json_tree.specs.Node.{AreLawfulChildren}
use Rattle.json_tree.specs.Working.Changed.{changed_at}
use Rattle.json_tree.proofs.Nodes.{at_primitive, parts_at_parent}
use Rattle.json_tree.proofs.Edits.{first_and_rest}
use Rattle.json_tree.proofs.Proposing.{merged-root, merged-lone, merged-chain, depth-chain, room_after}
use Rattle.json_tree.proofs.ChildEdits.{StandsAt, depth_there, children-set, graft-set, missing_at, children-insert, graft-insert}
use Rattle.json_tree.proofs.Shares.{IsShareOf, size_of_node, set_there, exchanges-set, exchanges-insert}
use Rattle.json_tree.proofs.Undoing.{place-lone, changed-lone, exists-lone, place-there, changed-there, exists-there, place-missing, changed-missing, exists-missing}
use Rattle.json_tree.proofs.puts.+insert.Goals as goal

-- ---- a node

pub insert-insert_below-requires : goal.insert-insert_below-requires
insert-insert_below-requires t c =
    let long = ap length (first_and_rest c.args.path.now c.key-item.result (omega arith) c.key-item.is) in
    (omega arith, (parts_at_parent c.node.invariant.parts c.in-Parent.is, omega arith))

pub insert-sizes_after-depth_after-requires-clause-sizes : goal.insert-sizes_after-depth_after-requires-clause-sizes
insert-sizes_after-depth_after-requires-clause-sizes t c = (c.in-Parent.children.items, size_of_node c.node.invariant c.in-Parent.is, c.in_ok-exchange-in-Parent.ensures.exchange)

pub insert-invariant_of-node-in-Parent : goal.insert-invariant_of-node-in-Parent
insert-invariant_of-node-in-Parent t c =
    let children = c.in_ok-exchange-in-Parent.ensures.children in
    let sizes = c.sizes_after-depth_after.ensures in
    record { parts = children; lawful = IsLawful-graft _ children.0.ascending children.1; sized = record { depth = sizes.depth; count = sizes.count } }

pub insert-returns-in_default-clause-ok : goal.insert-returns-in_default-clause-ok
insert-returns-in_default-clause-ok t c =
    let none = nil_from_length c.args.path.now (omega arith) in
    c.swap.ensures.x_after ∙ sym (ap (λ p. merged c.args.node.now ((p, c.args.value.now) ∷ [])) none ∙ merged-root c.args.node.now c.args.value.now)

pub insert-returns-in_default-clause-was : goal.insert-returns-in_default-clause-was
insert-returns-in_default-clause-was t c =
    let none = nil_from_length c.args.path.now (omega arith) in
    c.swap.ensures.y_after ∙ sym (ap (λ p. sub c.args.node.now (changed_at c.args.node.now p)) none ∙ sub-root c.args.node.now)

pub insert-only_child-requires : goal.insert-only_child-requires
insert-only_child-requires t c =
    let rest = take (length c.args.path.now - 1) (drop 1 c.args.path.now) in
    let long = ap length (first_and_rest c.args.path.now c.key-item.result (omega arith) c.key-item.is) in
    let made = c.in_ok-chain-in-Primitive.ensures ∙ ap (λ v. merged null ((rest, v) ∷ [])) c.taken.ensures in
    let deep = depth-chain c.in_ok-chain-in-Primitive.field-0 rest c.args.value.now made in
    let room = c.requires.room in
    omega arith

pub insert-returns-in_err-chain-in-Primitive-clause-existing : goal.insert-returns-in_err-chain-in-Primitive-clause-existing
insert-returns-in_err-chain-in-Primitive-clause-existing t c there =
    let path = first_and_rest c.args.path.now c.key-item.result (omega arith) c.key-item.is in
    let node = at_primitive c.node.view_is c.in-Primitive.is in
    absurd (false≢true (sym (exists-lone (primitive_of c.in-Primitive.field-0) c.key-item.result _) ∙ sym (λ i. exists (node i) (path i)) ∙ there))

pub insert-returns-in_err-parent-in-Primitive-clause-existing : goal.insert-returns-in_err-parent-in-Primitive-clause-existing
insert-returns-in_err-parent-in-Primitive-clause-existing t c there =
    let path = first_and_rest c.args.path.now c.key-item.result (omega arith) c.key-item.is in
    let node = at_primitive c.node.view_is c.in-Primitive.is in
    absurd (false≢true (sym (exists-lone (primitive_of c.in-Primitive.field-0) c.key-item.result _) ∙ sym (λ i. exists (node i) (path i)) ∙ there))

pub insert-returns-in_ok-parent-in-Primitive-clause-ok : goal.insert-returns-in_ok-parent-in-Primitive-clause-ok
insert-returns-in_ok-parent-in-Primitive-clause-ok t c =
    let rest = take (length c.args.path.now - 1) (drop 1 c.args.path.now) in
    let path = first_and_rest c.args.path.now c.key-item.result (omega arith) c.key-item.is in
    let node = at_primitive c.node.view_is c.in-Primitive.is in
    let value = c.args.value.now in
    let made = c.in_ok-chain-in-Primitive.ensures ∙ ap (λ v. merged null ((rest, v) ∷ [])) c.taken.ensures in
    c.replace.ensures.after
    ∙ c.in_ok-parent-in-Primitive.ensures
    ∙ merged-chain c.key-item.result rest c.in_ok-chain-in-Primitive.field-0 value made
    ∙ sym (merged-lone (primitive_of c.in-Primitive.field-0) c.key-item.result rest value c.law.ensures.some)
    ∙ sym (λ i. merged (node i) ((path i, value) ∷ []))

pub insert-returns-in_ok-parent-in-Primitive-clause-was : goal.insert-returns-in_ok-parent-in-Primitive-clause-was
insert-returns-in_ok-parent-in-Primitive-clause-was t c =
    let path = first_and_rest c.args.path.now c.key-item.result (omega arith) c.key-item.is in
    let node = at_primitive c.node.view_is c.in-Primitive.is in
    c.replace.ensures.value
    ∙ c.node.view_is
    ∙ node
    ∙ sym (changed-lone (primitive_of c.in-Primitive.field-0) c.key-item.result _)
    ∙ sym (λ i. sub (node i) (changed_at (node i) (path i)))

pub insert-returns-in_ok-parent-in-Primitive-clause-reach : goal.insert-returns-in_ok-parent-in-Primitive-clause-reach
insert-returns-in_ok-parent-in-Primitive-clause-reach t c =
    let path = first_and_rest c.args.path.now c.key-item.result (omega arith) c.key-item.is in
    let node = at_primitive c.node.view_is c.in-Primitive.is in
    let none = ap length (sym (place-lone (primitive_of c.in-Primitive.field-0) c.key-item.result _) ∙ sym (λ i. changed_at (node i) (path i))) in
    omega arith

-- ---- its children

pub insert_below-returns-in_ok-stood-in-Ok-clause-children : goal.insert_below-returns-in_ok-stood-in-Ok-clause-children
insert_below-returns-in_ok-stood-in-Ok-clause-children t c =
    let cs = c.args.children.now.items in
    let was : Key × Tree = c.index_mut.result.now in
    let d : Key × Tree = c.deref_mut.result.now in
    let opened : was ≡ d = sym (c.deref_mut.ensures.value ∙ c.behind-children.view_is) in
    let found : StandsAt cs c.in-Ok.index d c.text.result.now = subst (λ (x : Key × Tree). StandsAt cs c.in-Ok.index x c.text.result.now) opened (record { children = c.requires.children; within = c.in-Ok.ensures.bound; at = c.index_mut.ensures.value; tied = c.in-Ok.ensures.position was }) in
    let within = c.requires.room in
    let room = room_after c.insert.result d.1 c.insert.new.node c.args.rest.now c.args.value.now c.insert.ensures.ok c.insert.ensures.err (depth_there found) (omega arith) in
    let after = set_there cs c.in-Ok.index (d.0, c.insert.new.node) c.index-in-Ok.result.now c.in-Ok.ensures.bound c.index-in-Ok.ensures in
    let there : c.node-in-Ok.result.now ≡ c.insert.new.node = c.node-in-Ok.ensures ∙ ap (λ (x : Key × Tree). x.1) after in
    children-set found c.insert.new.node (subst (λ (x : Tree). x ≢ null) there c.share_of-after.ensures.some) (subst IsLawful there c.share_of-after.ensures.lawful) room

pub insert_below-returns-in_ok-stood-in-Ok-clause-exchange : goal.insert_below-returns-in_ok-stood-in-Ok-clause-exchange
insert_below-returns-in_ok-stood-in-Ok-clause-exchange t c =
    let cs = c.args.children.now.items in
    let was : Key × Tree = c.index_mut.result.now in
    let d : Key × Tree = c.deref_mut.result.now in
    let opened : was ≡ d = sym (c.deref_mut.ensures.value ∙ c.behind-children.view_is) in
    let after = set_there cs c.in-Ok.index (d.0, c.insert.new.node) c.index-in-Ok.result.now c.in-Ok.ensures.bound c.index-in-Ok.ensures in
    let there : c.node-in-Ok.result.now ≡ c.insert.new.node = c.node-in-Ok.ensures ∙ ap (λ (x : Key × Tree). x.1) after in
    let before = c.share_of-before.ensures in
    let later = c.share_of-after.ensures in
    exchanges-set cs c.in-Ok.index _ c.index.result.now d.0 c.insert.new.node c.in-Ok.ensures.bound c.index.ensures
    (subst (λ (x : Tree). IsShareOf x c.share_of-before.result.depth c.share_of-before.result.count) c.node.ensures (record { depth = before.depth; count = before.count }))
    (subst (λ (x : Tree). IsShareOf x c.share_of-after.result.depth c.share_of-after.result.count) there (record { depth = later.depth; count = later.count }))

pub insert_below-returns-in_ok-stood-in-Ok-clause-ok : goal.insert_below-returns-in_ok-stood-in-Ok-clause-ok
insert_below-returns-in_ok-stood-in-Ok-clause-ok t c =
    let cs = c.args.children.now.items in
    let was : Key × Tree = c.index_mut.result.now in
    let d : Key × Tree = c.deref_mut.result.now in
    let opened : was ≡ d = sym (c.deref_mut.ensures.value ∙ c.behind-children.view_is) in
    let found : StandsAt cs c.in-Ok.index d c.text.result.now = subst (λ (x : Key × Tree). StandsAt cs c.in-Ok.index x c.text.result.now) opened (record { children = c.requires.children; within = c.in-Ok.ensures.bound; at = c.index_mut.ensures.value; tied = c.in-Ok.ensures.position was }) in
    graft-set found c.args.rest.now c.insert.new.node c.args.value.now c.in_ok-stood-in-Ok.ensures.ok ∙ ap (λ k. merged (graft cs) ((k ∷ c.args.rest.now, c.args.value.now) ∷ [])) c.text.ensures.bytes

pub insert_below-returns-in_ok-insert-in-Err-clause-children : goal.insert_below-returns-in_ok-insert-in-Err-clause-children
insert_below-returns-in_ok-insert-in-Err-clause-children t c =
    let cs = c.args.children.now.items in
    let below : Tree = c.in_ok-below-in-Err.below in
    let missing = missing_at cs c.in-Err.index c.text.result.now c.requires.children c.in-Err.ensures.bound c.in-Err.ensures.position in
    let items = c.in_ok-insert-in-Err.ensures.items ∙ ap (insert cs c.in-Err.index) c.in_ok-child-in-Err.ensures ∙ ap (λ k. insert cs c.in-Err.index (k, below)) (c.in_ok-copy-in-Err.ensures ∙ sym c.text.ensures.bytes) in
    let made = c.in_ok-below-in-Err.ensures ∙ ap (λ v. merged null ((c.args.rest.now, v) ∷ [])) c.taken.ensures in
    let deep = depth-chain below c.args.rest.now c.args.value.now made in
    let within = c.requires.room in
    let room : depth below < MAX_DEPTH = omega arith in
    let share = c.share_of-after-in-Err.ensures in
    subst AreLawfulChildren (sym items) (children-insert missing below (ap is_key c.text.ensures.bytes ∙ c.text.ensures.lawful) share.some share.lawful room)

pub insert_below-returns-in_ok-insert-in-Err-clause-exchange : goal.insert_below-returns-in_ok-insert-in-Err-clause-exchange
insert_below-returns-in_ok-insert-in-Err-clause-exchange t c =
    let cs = c.args.children.now.items in
    let share = c.share_of-after-in-Err.ensures in
    rw (c.in_ok-insert-in-Err.ensures.items, c.in_ok-child-in-Err.ensures) (exchanges-insert cs c.in-Err.index _ c.in_ok-copy-in-Err.field-0 c.in_ok-below-in-Err.below refl refl (record { depth = share.depth; count = share.count }))

pub insert_below-returns-in_ok-insert-in-Err-clause-ok : goal.insert_below-returns-in_ok-insert-in-Err-clause-ok
insert_below-returns-in_ok-insert-in-Err-clause-ok t c =
    let cs = c.args.children.now.items in
    let below : Tree = c.in_ok-below-in-Err.below in
    let missing = missing_at cs c.in-Err.index c.text.result.now c.requires.children c.in-Err.ensures.bound c.in-Err.ensures.position in
    let items = c.in_ok-insert-in-Err.ensures.items ∙ ap (insert cs c.in-Err.index) c.in_ok-child-in-Err.ensures ∙ ap (λ k. insert cs c.in-Err.index (k, below)) (c.in_ok-copy-in-Err.ensures ∙ sym c.text.ensures.bytes) in
    let made = c.in_ok-below-in-Err.ensures ∙ ap (λ v. merged null ((c.args.rest.now, v) ∷ [])) c.taken.ensures in
    ap graft items
    ∙ graft-insert missing c.args.rest.now below c.args.value.now made
    ∙ ap (λ k. merged (graft cs) ((k ∷ c.args.rest.now, c.args.value.now) ∷ [])) c.text.ensures.bytes

-- what stood there

pub insert_below-returns-in_ok-stood-in-Ok-clause-was : goal.insert_below-returns-in_ok-stood-in-Ok-clause-was
insert_below-returns-in_ok-stood-in-Ok-clause-was t c =
    let cs = c.args.children.now.items in
    let was : Key × Tree = c.index_mut.result.now in
    let d : Key × Tree = c.deref_mut.result.now in
    let opened : was ≡ d = sym (c.deref_mut.ensures.value ∙ c.behind-children.view_is) in
    let found : StandsAt cs c.in-Ok.index d c.text.result.now = subst (λ (x : Key × Tree). StandsAt cs c.in-Ok.index x c.text.result.now) opened (record { children = c.requires.children; within = c.in-Ok.ensures.bound; at = c.index_mut.ensures.value; tied = c.in-Ok.ensures.position was }) in
    c.in_ok-stood-in-Ok.ensures.was ∙ sym (changed-there found c.args.rest.now) ∙ ap (λ k. sub (graft cs) (changed_at (graft cs) (k ∷ c.args.rest.now))) c.text.ensures.bytes

pub insert_below-returns-in_ok-insert-in-Err-clause-was : goal.insert_below-returns-in_ok-insert-in-Err-clause-was
insert_below-returns-in_ok-insert-in-Err-clause-was t c =
    let cs = c.args.children.now.items in
    let missing = missing_at cs c.in-Err.index c.text.result.now c.requires.children c.in-Err.ensures.bound c.in-Err.ensures.position in
    sym (changed-missing missing c.args.rest.now) ∙ ap (λ k. sub (graft cs) (changed_at (graft cs) (k ∷ c.args.rest.now))) c.text.ensures.bytes

-- how many keys lead there

pub insert_below-returns-in_ok-stood-in-Ok-clause-reach : goal.insert_below-returns-in_ok-stood-in-Ok-clause-reach
insert_below-returns-in_ok-stood-in-Ok-clause-reach t c =
    let cs = c.args.children.now.items in
    let was : Key × Tree = c.index_mut.result.now in
    let d : Key × Tree = c.deref_mut.result.now in
    let opened : was ≡ d = sym (c.deref_mut.ensures.value ∙ c.behind-children.view_is) in
    let found : StandsAt cs c.in-Ok.index d c.text.result.now = subst (λ (x : Key × Tree). StandsAt cs c.in-Ok.index x c.text.result.now) opened (record { children = c.requires.children; within = c.in-Ok.ensures.bound; at = c.index_mut.ensures.value; tied = c.in-Ok.ensures.position was }) in
    let below = c.in_ok-stood-in-Ok.ensures.reach in
    let one_more = ap length (sym (place-there found c.args.rest.now) ∙ ap (λ k. changed_at (graft cs) (k ∷ c.args.rest.now)) c.text.ensures.bytes) in
    omega arith

pub insert_below-returns-in_ok-insert-in-Err-clause-reach : goal.insert_below-returns-in_ok-insert-in-Err-clause-reach
insert_below-returns-in_ok-insert-in-Err-clause-reach t c =
    let cs = c.args.children.now.items in
    let missing = missing_at cs c.in-Err.index c.text.result.now c.requires.children c.in-Err.ensures.bound c.in-Err.ensures.position in
    ap (λ p. c.args.reach.now + length p) (sym (place-missing missing c.args.rest.now) ∙ ap (λ k. changed_at (graft cs) (k ∷ c.args.rest.now)) c.text.ensures.bytes)

-- what exists is replaced without memory

pub insert_below-returns-in_err-stood-in-Ok-clause-existing : goal.insert_below-returns-in_err-stood-in-Ok-clause-existing
insert_below-returns-in_err-stood-in-Ok-clause-existing t c there =
    let cs = c.args.children.now.items in
    let was : Key × Tree = c.index_mut.result.now in
    let d : Key × Tree = c.deref_mut.result.now in
    let opened : was ≡ d = sym (c.deref_mut.ensures.value ∙ c.behind-children.view_is) in
    let found : StandsAt cs c.in-Ok.index d c.text.result.now = subst (λ (x : Key × Tree). StandsAt cs c.in-Ok.index x c.text.result.now) opened (record { children = c.requires.children; within = c.in-Ok.ensures.bound; at = c.index_mut.ensures.value; tied = c.in-Ok.ensures.position was }) in
    let below : exists d.1 c.args.rest.now ≡ true = sym (exists-there found c.args.rest.now) ∙ ap (λ k. exists (graft cs) (k ∷ c.args.rest.now)) c.text.ensures.bytes ∙ there in
    absurd (false≢true (sym (ap is_ok c.in_err-stood-in-Ok.was) ∙ c.insert.ensures.existing below))

pub insert_below-returns-in_err-below-in-Err-clause-existing : goal.insert_below-returns-in_err-below-in-Err-clause-existing
insert_below-returns-in_err-below-in-Err-clause-existing t c there =
    let cs = c.args.children.now.items in
    let missing = missing_at cs c.in-Err.index c.text.result.now c.requires.children c.in-Err.ensures.bound c.in-Err.ensures.position in
    absurd (false≢true (sym (exists-missing missing c.args.rest.now) ∙ ap (λ k. exists (graft cs) (k ∷ c.args.rest.now)) c.text.ensures.bytes ∙ there))

pub insert_below-returns-in_err-insert-in-Err-clause-existing : goal.insert_below-returns-in_err-insert-in-Err-clause-existing
insert_below-returns-in_err-insert-in-Err-clause-existing t c there =
    let cs = c.args.children.now.items in
    let missing = missing_at cs c.in-Err.index c.text.result.now c.requires.children c.in-Err.ensures.bound c.in-Err.ensures.position in
    absurd (false≢true (sym (exists-missing missing c.args.rest.now) ∙ ap (λ k. exists (graft cs) (k ∷ c.args.rest.now)) c.text.ensures.bytes ∙ there))

pub insert_below-returns-in_err-child-in-Err-clause-existing : goal.insert_below-returns-in_err-child-in-Err-clause-existing
insert_below-returns-in_err-child-in-Err-clause-existing t c there =
    let cs = c.args.children.now.items in
    let missing = missing_at cs c.in-Err.index c.text.result.now c.requires.children c.in-Err.ensures.bound c.in-Err.ensures.position in
    absurd (false≢true (sym (exists-missing missing c.args.rest.now) ∙ ap (λ k. exists (graft cs) (k ∷ c.args.rest.now)) c.text.ensures.bytes ∙ there))

pub insert_below-returns-in_err-copy-in-Err-clause-existing : goal.insert_below-returns-in_err-copy-in-Err-clause-existing
insert_below-returns-in_err-copy-in-Err-clause-existing t c there =
    let cs = c.args.children.now.items in
    let missing = missing_at cs c.in-Err.index c.text.result.now c.requires.children c.in-Err.ensures.bound c.in-Err.ensures.position in
    absurd (false≢true (sym (exists-missing missing c.args.rest.now) ∙ ap (λ k. exists (graft cs) (k ∷ c.args.rest.now)) c.text.ensures.bytes ∙ there))
