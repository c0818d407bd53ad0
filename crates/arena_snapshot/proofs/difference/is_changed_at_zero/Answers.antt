use Rattle.std.proofs.Common.{◌∙◌, sym, arith}
use Rattle.tree_model.specs.Put.{IsLawfulPut}
use Rattle.tree_model.specs.Write.{made, all_made}
use Rattle.tree_model.proofs.Drafts.{overlaps-made, made_in}
use Rattle.arena_snapshot.specs.View.{node_or_null}
use Rattle.arena_snapshot.specs.Working.Leaving.{Leaves}
use Rattle.arena_snapshot.proofs.Leaving.{all_made_within, left_together, each_leaves}
use Rattle.arena_snapshot.proofs.Tests.{from_true}
use Rattle.arena_snapshot.proofs.difference.is_changed_at_zero.Goals as goal

pub returns-then-changes-clause-changed : goal.returns-then-changes-clause-changed
returns-then-changes-clause-changed c = λ same.
    let ws = c.args.writes.now in
    from_true _ _ c.changes.ensures.changes c.if-changes.true (each_leaves (node_or_null c.args.base) c.args.keys.now (all_made 0 ws) (made 0 c.write-item.result) (overlaps-made 0 ws ∙ c.requires) (made_in 0 ws c.write-item.result (c.loop-write.write-index, c.loop-write-test.true, sym c.write-item.is)) same)

pub returns-clause-unchanged : goal.returns-clause-unchanged
returns-clause-unchanged c =
    let low = c.loop-write-test.false in
    let ws = c.args.writes.now in
    left_together (node_or_null c.args.base) c.args.keys.now (all_made 0 ws) c.law_of.ensures (overlaps-made 0 ws ∙ c.requires)
    (all_made_within 0 IsLawfulPut ws (λ k d from below. c.loop-write.invariant.lawful k d from (omega arith)))
    (all_made_within 0 (Leaves (node_or_null c.args.base) c.args.keys.now) ws (λ k d from below. c.loop-write.invariant.leaves k d from (omega arith)))
