use Rattle.std.proofs.Common.{subst}
use Rattle.rules_reader.specs.Node.{Point, Steps, NoneMatches}
use Rattle.rules_reader.specs.Part.{texts}
use Rattle.rules_reader.specs.Working.Stepped.{stepped}
use Rattle.rules_reader.proofs.Steps.{stepped_to, not_stepped, if_some, if_none}
use Rattle.rules_reader.proofs.node.RuleNode.step.Goals as goal

pub returns-clause-found : goal.returns-clause-found
returns-clause-found c =
    let node = c.self.inside in
    let key = c.args.key.now in
    if_some (λ p. Steps c.args.self.now key p) c.child_of.result (stepped node.children.items node.capture key) c.child_of.ensures (λ p e.
    subst (λ (from : Point). Steps from key p) c.self.view_is (stepped_to node.rules (texts node.pattern) node.children.items node.capture key p c.self.invariant.0 e))

pub returns-clause-none : goal.returns-clause-none
returns-clause-none c =
    let node = c.self.inside in
    let key = c.args.key.now in
    if_none (NoneMatches c.args.self.now.book key) c.child_of.result (stepped node.children.items node.capture key) c.child_of.ensures (λ e.
    subst (λ (from : Point). NoneMatches from.book key) c.self.view_is (not_stepped node.rules (texts node.pattern) node.children.items node.capture key c.self.invariant.0 e))
