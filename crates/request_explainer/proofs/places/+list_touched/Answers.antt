use Rattle.std.proofs.Common.{[], ◌∷◌, map, length, length-append, sym, ap, ◌∙◌, arith}
use Rattle.std.specs.FinMap as map_of
use Rattle.tree_model.specs.Put.{location}
use Rattle.tree_model.specs.Tree.{children}
use Rattle.request_explainer.specs.Working.{places_by}
use Rattle.request_explainer.proofs.Deeper.{less_deep_at, entry_there, as_many_keys}
use Rattle.request_explainer.proofs.Touching.{nothing_touched, touched_by, first_listed, next_listed, all_listed}
use Rattle.request_explainer.proofs.places.+list_touched.Goals as goal

pub returns-then-not-near : goal.returns-then-not-near
returns-then-not-near t c =
    nothing_touched (map location c.args.writes.now) c.args.here.now c.args.view.now (places_by c.args.places.now.items) (sym (touched_by location c.args.here.now c.args.writes.now) ∙ sym c.touches-near.ensures ∙ c.if-not-near.true)

pub loop-i-init : goal.loop-i-init
loop-i-init t c = first_listed (map location c.args.writes.now) c.args.here.now (map_of.entries (children c.args.view.now)) c.args.places.now.items c.push.new.self.items c.args.here c.in_ok-push.ensures.items

pub unreachable-requires : goal.unreachable-requires
unreachable-requires t c =
    let within = c.loop-i-test.true in
    let wide = c.width-i-end.ensures in
    entry_there (map_of.entries (children c.args.view.now)) c.loop-i.i (omega (arith, within, wide, as_many_keys c.args.view.now)) c.in_default.ensures

pub below-requires : goal.below-requires
below-requires t c =
    let deep = less_deep_at c.args.view.now c.loop-i.i c.in-Some.key.now c.in-Some.child c.in-Some.ensures in
    let room = c.requires in
    omega (arith, deep, room)

pub list_touched-requires : goal.list_touched-requires
list_touched-requires t c =
    let deep = less_deep_at c.args.view.now c.loop-i.i c.in-Some.key.now c.in-Some.child c.in-Some.ensures in
    let room = c.requires in
    let long = ap length c.in_ok-below.ensures ∙ length-append c.args.here.now (c.in-Some.key.now ∷ []) in
    (omega (arith, deep), omega (arith, deep, room, long))

pub loop-i-preserved : goal.loop-i-preserved
loop-i-preserved t c =
    c.in_ok-list_touched.ensures
    ∙ next_listed (map location c.args.writes.now) c.args.here.now c.in_ok-below.below.now (map_of.entries (children c.args.view.now)) c.loop-i.i c.in-Some.key.now c.in-Some.child (places_by c.args.places.now.items) (places_by c.loop-i.places.items) c.in-Some.ensures c.in_ok-below.ensures c.loop-i.invariant

pub returns : goal.returns
returns t c =
    let past = c.loop-i-test.false in
    let wide = c.width-i-end.ensures in
    all_listed (map location c.args.writes.now) c.args.here.now c.args.view.now c.loop-i.i (places_by c.args.places.now.items) (places_by c.loop-i.places.items) c.law.ensures.some
    (sym (touched_by location c.args.here.now c.args.writes.now) ∙ sym c.touches-near.ensures ∙ c.if-not-near.false)
    (omega (arith, past, wide, as_many_keys c.args.view.now)) c.loop-i.invariant
