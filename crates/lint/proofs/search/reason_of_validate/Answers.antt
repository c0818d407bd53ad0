use Rattle.std.proofs.Common.{List, ℕ, sym, ap, subst, ◌∙◌}
use Rattle.expr_parser.specs.Tree.{SyntaxTree}
use Rattle.rules_reader.specs.declared.kind.Kind.TheVariants.{Validate}
use Rattle.lint.specs.Demands.{asks_child, AsksForTwo}
use Rattle.lint.specs.Finding.{AsksForRefusedAt}
use Rattle.lint.proofs.Nodes.{rule_given}
use Rattle.lint.proofs.Reasons.{asks_for_refused}
use Rattle.lint.proofs.search.reason_of_validate.Goals as goal

pub returns-in-Some-two_demands : goal.returns-in-Some-two_demands
returns-in-Some-two_demands c = λ book node. record {
  rule = c.in-Some.rule.now.tree;
  stated = rule_given book Validate c.args.node.now c.in-Some.rule.now node c.in-Some.ensures.stated;
  two = subst (λ (x : SyntaxTree). AsksForTwo x c.in-Some-two_demands.one c.in-Some-two_demands.other) c.expr.ensures c.in-Some-two_demands.ensures;
}

pub returns-in_ok-text_of-in-Some-refused_child : goal.returns-in_ok-text_of-in-Some-refused_child
returns-in_ok-text_of-in-Some-refused_child c = λ book node.
    let refused = c.in-Some-refused_child.refused in
    let stated = rule_given book Validate c.args.node.now c.in-Some.rule.now node c.in-Some.ensures.stated in
    let asked = sym (ap (asks_child refused.child.now) c.expr-2.ensures) ∙ c.in-Some-refused_child.ensures.0 in (
      refused.node.now.at,
      c.in_ok-text_of-in-Some-refused_child.ensures,
      subst (λ (s : List ℕ). AsksForRefusedAt book c.args.node.now.at s refused.node.now.at) (sym c.in_ok-from_str-in-Some-refused_child.ensures.ok)
          (asks_for_refused book c.args.node.now refused.node.now refused.child.now c.in-Some.rule.now.tree node stated asked c.in-Some-refused_child.ensures.1),
    )
