use Rattle.std.proofs.Common.{is_gt, sym, ap, ◌∙◌, arith}
use Rattle.tree_model.specs.Path.{path_cmp, is_prefix}
use Rattle.arena_snapshot.proofs.Neighbours.{apart_in_order, before_next, before_none, pair_overlaps}
use Rattle.arena_snapshot.proofs.overlapping.overlap_in_order.Goals as goal

pub loop-i-init : goal.loop-i-init
loop-i-init c = before_none c.args.writes.now

pub returns-then-is_prefix : goal.returns-then-is_prefix
returns-then-is_prefix c =
    let low = c.loop-i-test.true in
    let at = c.at-write.ensures.path in
    let next = c.at-next.ensures.path in
    sym (pair_overlaps c.args.writes.now c.loop-i.i c.index-writes-i.result c.index-writes-i-in-loop-i.result c.loop-i.auto.i low c.index-writes-i.is c.index-writes-i-in-loop-i.is
    ((λ j. is_prefix (sym at j) (sym next j)) ∙ sym c.is_prefix.ensures ∙ c.if-is_prefix.true))

pub loop-i-preserved : goal.loop-i-preserved
loop-i-preserved c =
    let low = c.loop-i-test.true in
    let at = c.at-write.ensures.path in
    let next = c.at-next.ensures.path in
    before_next c.args.writes.now c.loop-i.i c.index-writes-i.result c.index-writes-i-in-loop-i.result c.loop-i.auto.i low c.index-writes-i.is c.index-writes-i-in-loop-i.is c.loop-i.invariant
    (ap is_gt ((λ j. path_cmp (sym at j) (sym next j)) ∙ sym c.compare.ensures) ∙ sym c.is_gt.ensures ∙ c.if-is_gt.false)
    ((λ j. is_prefix (sym at j) (sym next j)) ∙ sym c.is_prefix.ensures ∙ c.if-is_prefix.false)

pub returns : goal.returns
returns c = sym (apart_in_order c.args.writes.now c.loop-i.i (let all = c.loop-i-test.false in omega arith) c.loop-i.invariant)
