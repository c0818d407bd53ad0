use Rattle.std.proofs.Common.{sym, ◌∙◌}
use Rattle.arena_snapshot.proofs.Apart.{overlap_found, overlap_next, no_overlap}
use Rattle.arena_snapshot.proofs.overlapping.overlap_in_any_order.Goals as goal

pub returns-then-overlaps_any : goal.returns-then-overlaps_any
returns-then-overlaps_any c = overlap_found c.args.writes.now c.loop-i.i c.index-writes-i.result c.loop-i-test.true c.index-writes-i.is c.loop-i.invariant (sym c.overlaps_any.ensures ∙ c.if-overlaps_any.true)

pub loop-i-preserved : goal.loop-i-preserved
loop-i-preserved c = overlap_next c.args.writes.now c.loop-i.i c.index-writes-i.result c.loop-i-test.true c.index-writes-i.is c.loop-i.invariant (sym c.overlaps_any.ensures ∙ c.if-overlaps_any.false)

pub returns : goal.returns
returns c = no_overlap c.args.writes.now c.loop-i.i c.loop-i-test.false c.loop-i.invariant
