use Rattle.std.proofs.Common.{sym, ap, subst, arith}
use Rattle.tree_model.specs.PathMap.{depth}
use Rattle.tree_model.specs.Tree.{IsLawful}
use Rattle.tree_model.proofs.Existence.{depth-null}
use Rattle.tree_model.proofs.Lawful.{IsLawful-null}
use Rattle.arena_snapshot.specs.View.{node_or_null}
use Rattle.store.proofs.snapshots.law_of.Goals as goal

pub returns-in-None-clause-lawful : goal.returns-in-None-clause-lawful
returns-in-None-clause-lawful c = subst (λ o. IsLawful (node_or_null o)) (sym c.in-None.is) IsLawful-null

pub returns-in-None-clause-depth : goal.returns-in-None-clause-depth
returns-in-None-clause-depth c = omega (arith, depth-null, ap (λ o. depth (node_or_null o)) c.in-None.is)
