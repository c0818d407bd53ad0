use Rattle.std.proofs.Common.{refl}
use Rattle.tree_model.proofs.Existence.{non_null-null}
use Rattle.tree_model.proofs.Grafts.{sub-lone}
use Rattle.json_tree.proofs.Nodes.{at_primitive}
use Rattle.json_tree.proofs.node.Node.child.Goals as goal

pub returns-in-Primitive : goal.returns-in-Primitive
returns-in-Primitive c = rw (at_primitive c.self.view_is c.in-Primitive.is, sub-lone, non_null-null) refl
