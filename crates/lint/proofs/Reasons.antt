-- From what was looked up to the reason of a finding.
use Rattle.std.proofs.Common.{◌≡◌, Bool, true, [], Some, sym, ap, ◌∙◌}
use Rattle.expr_parser.specs.Tree.{SyntaxTree}
use Rattle.tree_model.specs.Key.{Key}
use Rattle.rules_reader.specs.Book.{Book}
use Rattle.rules_reader.specs.Node.{Point}
use Rattle.rules_reader.specs.declared.kind.Kind.{Kind}
use Rattle.rules_reader.specs.declared.kind.Kind.TheVariants.{Validate}
use Rattle.lint.specs.Literal.{is_false, is_stated, rule_at}
use Rattle.lint.specs.Demands.{asks_child}
use Rattle.lint.specs.Finding.{AsksForRefusedAt}
use Rattle.lint.specs.Working.{IsNodeOf, IsRefusedChild}
use Rattle.lint.proofs.Nodes.{rule_here, next_is_node, stepped_part}

-- what the node states holds of the book
pub passes_here : (test : SyntaxTree → Bool) (book : Book) (kind : Kind) (node : Point) → IsNodeOf book node → is_stated test (rule_at node.book kind []) ≡ true → is_stated test (rule_at book kind node.at) ≡ true
passes_here test book kind node n passes = ap (is_stated test) (sym (rule_here book kind node n)) ∙ passes

pub asks_for_refused : (book : Book) (node to : Point) (child : Key) (rule : SyntaxTree) → IsNodeOf book node → rule_at book Validate node.at ≡ Some rule → asks_child child rule ≡ true → IsRefusedChild node child to → AsksForRefusedAt book node.at child to.at
asks_for_refused book node to child rule n stated asked refused = record {
  rule = rule;
  stated = stated;
  asked = asked;
  key = refused.key;
  part = refused.step.part;
  stands = stepped_part book node to child n refused.step;
  is = refused.step.at;
  never = passes_here is_false book Validate to (next_is_node book node to child n refused.step) refused.refused;
}
