use Rattle.arena_snapshot.proofs.Tests.{on_true_weaker, on_false_weaker}
use Rattle.rtdb_core.proofs.passage.changes_at.Goals as goal

pub returns-clause-changed : goal.returns-clause-changed
returns-clause-changed c = on_true_weaker c.is_changed_at.result (λ differs. differs c.args.passage.now.moment) c.is_changed_at.ensures.changed

pub returns-clause-unchanged : goal.returns-clause-unchanged
returns-clause-unchanged c = on_false_weaker c.is_changed_at.result (λ same. same c.args.passage.now.moment) c.is_changed_at.ensures.unchanged
