use Rattle.std.proofs.Common.{refl}
use Rattle.tree_model.proofs.Grafts.{entries-children-lone, entries-children-graft, get-lone-root}
use Rattle.json_tree.proofs.Nodes.{at_primitive, at_parent, parts_at_parent}
use Rattle.json_tree.proofs.node.Node.children.Goals as goal

pub returns-in-Primitive-clause-exact : goal.returns-in-Primitive-clause-exact
returns-in-Primitive-clause-exact c = rw (at_primitive c.self.view_is c.in-Primitive.is, entries-children-lone) refl

pub returns-in-Primitive-clause-parent : goal.returns-in-Primitive-clause-parent
returns-in-Primitive-clause-parent c = λ none. let root = rw (at_primitive c.self.view_is c.in-Primitive.is, get-lone-root) at none in cc

pub returns-in-Primitive-clause-graft : goal.returns-in-Primitive-clause-graft
returns-in-Primitive-clause-graft c = λ none. let root = rw (at_primitive c.self.view_is c.in-Primitive.is, get-lone-root) at none in cc

pub returns-in-Parent-clause-exact : goal.returns-in-Parent-clause-exact
returns-in-Parent-clause-exact c =
    let parts = parts_at_parent c.self.invariant.parts c.in-Parent.is in
    rw (at_parent c.self.view_is c.in-Parent.is, entries-children-graft _ parts.0) c.as_slice.ensures.value
