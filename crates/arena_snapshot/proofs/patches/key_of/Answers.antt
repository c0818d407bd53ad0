use Rattle.std.proofs.Common.{◌-◌, Some, sym, ap, ◌∙◌, arith}
use Rattle.std.specs.List.{slice_get}
use Rattle.tree_model.specs.Tree.{child_keys}
use Rattle.arena_snapshot.specs.View.{node_or_null}
use Rattle.arena_snapshot.specs.declared.view.Patch.{Patch}
use Rattle.arena_snapshot.proofs.Behind.{partitioned, at_patch, at_stored, at_end, past_end}
use Rattle.arena_snapshot.proofs.patches.key_of.Goals as goal

pub returns-then-i-width : goal.returns-then-i-width
returns-then-i-width c = past_end (node_or_null c.args.base) c.args.patches.now c.args.width c.requires c.args.i c.if-i-width.true

pub count_behind-next-requires : goal.count_behind-next-requires
count_behind-next-requires c = partitioned (node_or_null c.args.base) c.args.patches.now c.args.width c.requires c.args.i c.if-i-width.false

pub overflow_sub-stored_width : goal.overflow_sub-stored_width
overflow_sub-stored_width c =
    let none_left = c.if-next-patches.true in
    let is = c.stored_width.ensures in
    let fits = (at_end (node_or_null c.args.base) c.args.patches.now c.args.width c.requires c.args.i c.if-i-width.false (λ n d inside. c.count_behind-next.ensures.point.0 n d (omega arith) (omega arith))).0 in
    omega arith

pub returns-then-next-patches : goal.returns-then-next-patches
returns-then-next-patches c =
    let none_left = c.if-next-patches.true in
    let is = at_end (node_or_null c.args.base) c.args.patches.now c.args.width c.requires c.args.i c.if-i-width.false (λ n d inside. c.count_behind-next.ensures.point.0 n d (omega arith) (omega arith)) in
    c.stored_key.ensures ∙ ap (λ n. slice_get (child_keys (node_or_null c.args.base)) (n - (c.args.width - c.args.i))) c.stored_width.ensures ∙ is.1

pub returns-then-patch-i : goal.returns-then-patch-i
returns-then-patch-i c =
    let q : Patch = c.index-patches-next.result in
    let next = c.count_behind-next.result in
    let low = c.count_behind-next.ensures.bound in
    let more = c.if-next-patches.false in
    let at = c.index-patches-next.is in
    ap (λ (p : Patch). Some p.key.now) at
    ∙ at_patch (node_or_null c.args.base) c.args.patches.now c.args.width c.requires c.args.i c.if-i-width.false next q (omega arith) (c.count_behind-next.ensures.point.1 next q (omega arith) (omega arith)) (sym (ap (λ (p : Patch). p.before) at) ∙ c.if-patch-i.true)

pub overflow_sub-patch-2 : goal.overflow_sub-patch-2
overflow_sub-patch-2 c =
    let q : Patch = c.index-patches-next.result in
    let next = c.count_behind-next.result in
    let low = c.count_behind-next.ensures.bound in
    let more = c.if-next-patches.false in
    let at = c.index-patches-next.is in
    let is = at_stored (node_or_null c.args.base) c.args.patches.now c.args.width c.requires c.args.i c.if-i-width.false next q (omega arith) (λ n less. c.count_behind-next.ensures.point.0 n q (omega arith) less) (c.count_behind-next.ensures.point.1 next q (omega arith) (omega arith)) (λ e. c.if-patch-i.false (ap (λ (p : Patch). p.before) at ∙ e)) in
    let before = ap (λ (p : Patch). p.before) at in
    let stored = ap (λ (p : Patch). p.stored_before) at in
    let fits = is.0.1 in
    omega arith

pub returns : goal.returns
returns c =
    let q : Patch = c.index-patches-next.result in
    let next = c.count_behind-next.result in
    let low = c.count_behind-next.ensures.bound in
    let more = c.if-next-patches.false in
    let at = c.index-patches-next.is in
    let is = at_stored (node_or_null c.args.base) c.args.patches.now c.args.width c.requires c.args.i c.if-i-width.false next q (omega arith) (λ n less. c.count_behind-next.ensures.point.0 n q (omega arith) less) (c.count_behind-next.ensures.point.1 next q (omega arith) (omega arith)) (λ e. c.if-patch-i.false (ap (λ (p : Patch). p.before) at ∙ e)) in
    c.stored_key-2.ensures
    ∙ ap (λ (p : Patch). slice_get (child_keys (node_or_null c.args.base)) (p.stored_before - (p.before - c.args.i))) at
    ∙ is.1
