use Rattle.std.proofs.Common.{ap}
use Rattle.rules_reader.specs.Node.{Point}
use Rattle.rules_reader.proofs.node.RuleNode.pattern.Goals as goal

pub returns : goal.returns
returns c = ap (λ (p : Point). p.at) c.self.view_is
