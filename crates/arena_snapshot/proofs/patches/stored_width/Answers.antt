use Rattle.std.proofs.Common.{length, sym, ap, ◌∙◌}
use Rattle.tree_model.specs.Tree.{child_keys}
use Rattle.arena_snapshot.specs.View.{node_or_null}
use Rattle.arena_snapshot.proofs.Ranks.{child_keys-null}
use Rattle.arena_snapshot.proofs.patches.stored_width.Goals as goal

pub returns-in-None : goal.returns-in-None
returns-in-None c = sym (ap (λ b. length (child_keys (node_or_null b))) c.in-None.is ∙ ap length child_keys-null)
