use Rattle.std.proofs.Common.{subst}
use Rattle.tree_model.specs.Tree.{IsLawful}
use Rattle.json_tree.proofs.Nodes.{depth_within}
use Rattle.arena_snapshot.proofs.view.View.law.Goals as goal

pub returns-clause-depth : goal.returns-clause-depth
returns-clause-depth c = depth_within c.args.self.now (subst IsLawful c.self.view_is c.self.invariant.lawful)
