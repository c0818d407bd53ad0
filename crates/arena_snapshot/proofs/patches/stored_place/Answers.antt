use Rattle.std.proofs.Common.{◌∷◌, [], sym, ap, ◌∙◌}
use Rattle.tree_model.specs.PathMap.{sub}
use Rattle.tree_model.specs.Tree.{non_null}
use Rattle.tree_model.proofs.Lookups.{sub-null}
use Rattle.tree_model.proofs.Existence.{non_null-null}
use Rattle.arena_snapshot.specs.View.{node_or_null}
use Rattle.arena_snapshot.specs.Working.Change.{before, below}
use Rattle.arena_snapshot.proofs.Ranks.{keys_before}
use Rattle.arena_snapshot.proofs.Sums.{total-null}
use Rattle.arena_snapshot.proofs.patches.stored_place.Goals as goal

pub returns-in-Some-clause-child : goal.returns-in-Some-clause-child
returns-in-Some-clause-child c = c.place.ensures.child ∙ (λ j. non_null (sub (node_or_null (sym c.in-Some.is j)) (c.text.ensures.bytes j ∷ [])))

pub returns-in-Some-clause-before : goal.returns-in-Some-clause-before
returns-in-Some-clause-before c = c.place.ensures.before ∙ keys_before c.text.result.now c.in-Some.node.now ∙ (λ j. before (c.text.ensures.bytes j) (node_or_null (sym c.in-Some.is j)))

pub returns-in-None-clause-child : goal.returns-in-None-clause-child
returns-in-None-clause-child c = sym (ap (λ b. non_null (sub (node_or_null b) (c.args.key.now ∷ []))) c.in-None.is ∙ ap non_null (sub-null (c.args.key.now ∷ [])) ∙ non_null-null)

pub returns-in-None-clause-before : goal.returns-in-None-clause-before
returns-in-None-clause-before c = sym (ap (λ b. before c.args.key.now (node_or_null b)) c.in-None.is ∙ total-null (below c.args.key.now))
