use Rattle.std.proofs.Common.{refl}
use Rattle.tree_model.proofs.Existence.{non_null-null}
use Rattle.tree_model.proofs.Grafts.{sub-lone, child_keys-lone, child_keys-graft}
use Rattle.json_tree.proofs.Nodes.{at_primitive, at_parent, parts_at_parent}
use Rattle.json_tree.proofs.node.Node.place.Goals as goal

pub returns-in-Primitive-clause-child : goal.returns-in-Primitive-clause-child
returns-in-Primitive-clause-child c = rw (at_primitive c.self.view_is c.in-Primitive.is, sub-lone, non_null-null) refl

pub returns-in-Primitive-clause-before : goal.returns-in-Primitive-clause-before
returns-in-Primitive-clause-before c = rw (at_primitive c.self.view_is c.in-Primitive.is, child_keys-lone) refl

pub returns-in-Parent-clause-before : goal.returns-in-Parent-clause-before
returns-in-Parent-clause-before c =
    let parts = parts_at_parent c.self.invariant.parts c.in-Parent.is in
    rw (at_parent c.self.view_is c.in-Parent.is, child_keys-graft _ parts.0) c.place_of.ensures.before
