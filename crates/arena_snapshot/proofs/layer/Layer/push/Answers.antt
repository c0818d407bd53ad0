use Rattle.std.proofs.Common.{◌≤◌, ◌+◌, ◌-◌, sym, ap, ◌∙◌, subst, refl, arith}
use Rattle.arena_snapshot.specs.View.{node_or_null}
use Rattle.arena_snapshot.specs.Working.Change.{locations_of, one_of}
use Rattle.arena_snapshot.proofs.Ranks.{before_within}
use Rattle.arena_snapshot.proofs.Laying.{count_room, width_room, index_is, layer_is}
use Rattle.arena_snapshot.proofs.layer.Layer.push.Goals as goal

pub overflow_sub-before : goal.overflow_sub-before
overflow_sub-before c =
    let low = before_within c.args.key.now (node_or_null c.args.self.now.base) in
    let at = c.requires.before in
    let wide = c.stored_width.ensures in
    omega arith

pub overflow_sub-before-2 : goal.overflow_sub-before-2
overflow_sub-before-2 c =
    let index = (index_is (node_or_null c.args.self.now.base) c.args.self.now.patches.items c.args.self.now.sizes c.requires.layer c.args.key.now c.args.child c.requires.behind).0 in
    let at = c.requires.before in
    let wide = c.stored_width.ensures in
    omega arith

pub exchanged-requires-clause-count : goal.exchanged-requires-clause-count
exchanged-requires-clause-count c =
    let room = count_room (node_or_null c.args.self.now.base) c.args.self.now.patches.items c.args.self.now.sizes c.requires.layer c.args.key.now c.args.child c.requires.behind in
    subst (λ o. locations_of o ≤ c.args.self.now.sizes.count) (sym c.requires.stored) room

pub exchanged-requires-clause-width : goal.exchanged-requires-clause-width
exchanged-requires-clause-width c =
    let room = width_room (node_or_null c.args.self.now.base) c.args.self.now.patches.items c.args.self.now.sizes c.requires.layer c.args.key.now c.args.child c.requires.behind in
    subst (λ o. one_of o ≤ c.args.self.now.sizes.width) (sym c.requires.stored) room

pub returns-clause-layer : goal.returns-clause-layer
returns-clause-layer c =
    let index = (index_is (node_or_null c.args.self.now.base) c.args.self.now.patches.items c.args.self.now.sizes c.requires.layer c.args.key.now c.args.child c.requires.behind).1 in
    let next = c.in_ok-sizes.sizes in
    layer_is (node_or_null c.args.self.now.base) c.args.self.now.patches.items c.args.self.now.sizes c.requires.layer c.args.key.now c.args.child c.requires.behind c.requires.some
    _ c.push.new.self.items next c.in_ok-push.ensures.items refl
    c.requires.before
    ((λ j. c.args.self.now.sizes.width - (c.stored_width.ensures j - c.requires.before j)) ∙ index)
    (ap (λ o. next.count + locations_of o) (sym c.requires.stored) ∙ c.in_ok-sizes.ensures.count)
    (ap (λ o. next.width + one_of o) (sym c.requires.stored) ∙ c.in_ok-sizes.ensures.width)
    c.in_ok-sizes.ensures.fits
