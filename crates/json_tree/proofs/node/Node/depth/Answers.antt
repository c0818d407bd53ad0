use Rattle.std.proofs.Common.{refl}
use Rattle.tree_model.proofs.Grafts.{depth-lone}
use Rattle.json_tree.proofs.Nodes.{at_primitive}
use Rattle.json_tree.proofs.node.Node.depth.Goals as goal

pub returns-in-Primitive : goal.returns-in-Primitive
returns-in-Primitive c = rw (at_primitive c.self.view_is c.in-Primitive.is, depth-lone) refl
