use Rattle.std.proofs.Common.{Some, sym, ap, ◌∙◌}
use Rattle.tree_model.specs.Tree.{non_null}
use Rattle.tree_model.proofs.Existence.{non_null-null, non_null-some}
use Rattle.arena_snapshot.specs.View.{node_or_null}
use Rattle.arena_snapshot.proofs.proposal.stored.Goals as goal

pub returns-in-Some : goal.returns-in-Some
returns-in-Some c = ap Some c.stored.ensures ∙ sym (ap (λ b. non_null (node_or_null b)) c.in-Some.is ∙ non_null-some c.in-Some.node.now c.law.ensures.some)

pub returns-in-None : goal.returns-in-None
returns-in-None c = sym (ap (λ b. non_null (node_or_null b)) c.in-None.is ∙ non_null-null)
