use Rattle.std.proofs.Common.{sym}
use Rattle.tree_model.proofs.Grafts.{get-lone-root, get-graft-root}
use Rattle.json_tree.specs.Leaf.{primitive_of}
use Rattle.json_tree.proofs.Nodes.{at_primitive, at_parent}
use Rattle.json_tree.proofs.node.Node.leaf.Goals as goal

pub returns-in-Primitive : goal.returns-in-Primitive
returns-in-Primitive c = rw (at_primitive c.self.view_is c.in-Primitive.is) (sym (get-lone-root (primitive_of c.in-Primitive.leaf)))

pub returns-in-Parent : goal.returns-in-Parent
returns-in-Parent c = rw (at_parent c.self.view_is c.in-Parent.is) (sym (get-graft-root _))
