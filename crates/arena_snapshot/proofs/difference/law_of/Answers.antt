use Rattle.std.proofs.Common.{sym, subst}
use Rattle.tree_model.specs.Tree.{IsLawful}
use Rattle.tree_model.proofs.Lawful.{IsLawful-null}
use Rattle.arena_snapshot.specs.View.{node_or_null}
use Rattle.arena_snapshot.proofs.difference.law_of.Goals as goal

pub returns-in-None : goal.returns-in-None
returns-in-None c = subst (λ b. IsLawful (node_or_null b)) (sym c.in-None.is) IsLawful-null
