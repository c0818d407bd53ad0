use Rattle.std.proofs.Common.{◌∷◌, [], sym, ap, ◌∙◌}
use Rattle.tree_model.specs.PathMap.{sub}
use Rattle.tree_model.specs.Tree.{non_null}
use Rattle.tree_model.proofs.Lookups.{sub-null}
use Rattle.tree_model.proofs.Existence.{non_null-null}
use Rattle.arena_snapshot.specs.View.{node_or_null}
use Rattle.arena_snapshot.proofs.patches.stored_child.Goals as goal

pub returns-in-None : goal.returns-in-None
returns-in-None c = sym (ap (λ b. non_null (sub (node_or_null b) (c.args.name.now ∷ []))) c.in-None.is ∙ ap non_null (sub-null (c.args.name.now ∷ [])) ∙ non_null-null)
