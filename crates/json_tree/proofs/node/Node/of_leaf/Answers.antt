use Rattle.tree_model.proofs.Lawful.{IsLawful-lone}
use Rattle.json_tree.specs.Leaf.{primitive_of}
use Rattle.json_tree.proofs.node.Node.of_leaf.Goals as goal

pub invariant_of-result : goal.invariant_of-result
invariant_of-result c =
    let v = primitive_of c.args.leaf in
    record { parts = tt; lawful = IsLawful-lone v c.law.ensures; sized = tt }
