use Rattle.std.proofs.Common.{◌≤◌, sym, ◌∙◌, ap, subst, arith}
use Rattle.serde_json.proofs.Views.{view-Array}
use Rattle.serde_json.specs.Data.{depth as nesting, Data}
use Rattle.serde_json.specs.View.{items_view}
use Rattle.entries.specs.Writes.{write_in, writes_in}
use Rattle.entries.proofs.Lists.{one_written, all_written, array_within}
use Rattle.entries.proofs.writes.writes_to_json.Goals as goal

pub returns-clause-value : goal.returns-clause-value
returns-clause-value c = ap writes_in (view-Array c.loop-write.items) ∙ all_written write_in 34 c.loop-write.items.items c.args.writes.now c.loop-write.write-index c.loop-write.invariant c.loop-write-test.false

pub returns-clause-depth : goal.returns-clause-depth
returns-clause-depth c = subst (λ (d : Data). nesting d ≤ 35) (sym (view-Array c.loop-write.items)) (array_within (items_view c.loop-write.items.items) 34 c.loop-write.invariant.within)

pub loop-write-preserved : goal.loop-write-preserved
loop-write-preserved c = one_written write_in 34 c.loop-write.items.items _ c.args.writes.now c.loop-write.write-index c.in_ok-write_to_json.field-0 c.write-item.result c.loop-write.invariant (omega arith) c.write-item.is c.in_ok-write_to_json.ensures.value c.in_ok-write_to_json.ensures.depth c.in_ok-push.ensures.items
