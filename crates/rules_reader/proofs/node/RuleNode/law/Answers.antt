use Rattle.std.proofs.Common.{◌≡◌, true, subst, []}
use Rattle.std.specs.FinMap as map_of
use Rattle.rules_reader.specs.Part.{texts}
use Rattle.rules_reader.specs.Place.{HasOneCapture}
use Rattle.rules_reader.specs.Node.{Point}
use Rattle.rules_reader.proofs.Nodes.{listed_of_node, one_of_node}
use Rattle.rules_reader.proofs.node.RuleNode.law.Goals as goal

pub returns-clause-listed : goal.returns-clause-listed
returns-clause-listed c =
    let node = c.self.inside in
    subst (λ (p : Point). map_of.contains_key p.book [] ≡ true) c.self.view_is (listed_of_node node.rules node.children.items)

pub returns-clause-one : goal.returns-clause-one
returns-clause-one c =
    let node = c.self.inside in
    subst (λ (p : Point). HasOneCapture p.book) c.self.view_is (one_of_node node.rules (texts node.pattern) node.children.items node.capture c.self.invariant.0)
