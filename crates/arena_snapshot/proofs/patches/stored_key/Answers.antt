use Rattle.std.proofs.Common.{sym, ap, ◌∙◌}
use Rattle.std.specs.List.{slice_get}
use Rattle.tree_model.specs.Tree.{child_keys}
use Rattle.arena_snapshot.specs.View.{node_or_null}
use Rattle.arena_snapshot.proofs.Ranks.{child_keys-null}
use Rattle.arena_snapshot.proofs.patches.stored_key.Goals as goal

pub returns-in-None : goal.returns-in-None
returns-in-None c = sym (ap (λ b. slice_get (child_keys (node_or_null b)) c.args.i) c.in-None.is ∙ ap (λ ks. slice_get ks c.args.i) child_keys-null)
