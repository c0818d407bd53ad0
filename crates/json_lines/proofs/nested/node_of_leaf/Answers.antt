use Rattle.std.proofs.Common.{◌≡◌, ◌∙◌, ap, arith}
use Rattle.tree_model.specs.Tree.{lone}
use Rattle.json_tree.specs.Leaf.{primitive_of}
use Rattle.json_tree.specs.Json.{value_of}
use Rattle.json_tree.proofs.Written.{value_of-lone}
use Rattle.json_lines.proofs.nested.node_of_leaf.Goals as goal

pub returns : goal.returns
returns c =
    let is : c.in_ok-node.node ≡ lone (primitive_of c.args.leaf) = grind arith in
    ap value_of is ∙ value_of-lone (primitive_of c.args.leaf)
