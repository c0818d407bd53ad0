use Rattle.std.proofs.Common.{◌∙◌, subst}
use Rattle.tree_model.specs.Tree.{IsLawful}
use Rattle.json_tree.proofs.Nodes.{kind≢null, depth_within}
use Rattle.json_tree.proofs.node.Node.law.Goals as goal

pub returns-clause-some : goal.returns-clause-some
returns-clause-some c = λ e. kind≢null c.self.inside.kind c.self.invariant.parts (c.self.view_is ∙ e)

pub returns-clause-depth : goal.returns-clause-depth
returns-clause-depth c = depth_within c.args.self.now (subst IsLawful c.self.view_is c.self.invariant.lawful)
