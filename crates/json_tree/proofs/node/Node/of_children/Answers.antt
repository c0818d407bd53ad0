use Rattle.tree_model.proofs.Lawful.{IsLawful-graft}
use Rattle.json_tree.proofs.node.Node.of_children.Goals as goal

pub invariant_of-result : goal.invariant_of-result
invariant_of-result c =
    let sizes = c.sizes_of-depth.ensures in
    record { parts = (sizes.children, sizes.lawful); lawful = IsLawful-graft _ c.requires.ascending sizes.lawful; sized = record { depth = sizes.depth; count = sizes.count } }
