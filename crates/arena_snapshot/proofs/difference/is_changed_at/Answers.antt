use Rattle.std.proofs.Common.{◌∙◌, ap}
use Rattle.tree_model.specs.PathMap.{sub}
use Rattle.tree_model.proofs.Writes.{proposed_alike}
use Rattle.arena_snapshot.specs.View.{node_or_null}
use Rattle.arena_snapshot.proofs.Tests.{on_true_weaker, on_false_weaker}
use Rattle.arena_snapshot.proofs.difference.is_changed_at.Goals as goal

pub returns-clause-changed : goal.returns-clause-changed
returns-clause-changed c =
    on_true_weaker c.is_changed_at_zero.result (λ differs now same. differs (ap (λ t. sub t c.args.keys.now) (proposed_alike (node_or_null c.args.base) c.args.writes.now 0 now c.requires.fixed) ∙ same)) c.is_changed_at_zero.ensures.changed

pub returns-clause-unchanged : goal.returns-clause-unchanged
returns-clause-unchanged c =
    on_false_weaker c.is_changed_at_zero.result (λ same now. ap (λ t. sub t c.args.keys.now) (proposed_alike (node_or_null c.args.base) c.args.writes.now now 0 c.requires.fixed) ∙ same) c.is_changed_at_zero.ensures.unchanged
