use Rattle.std.proofs.Common.{◌∙◌, ap, subst}
use Rattle.tree_model.specs.Children.{graft}
use Rattle.json_tree.specs.Json.{value_of}
use Rattle.json_tree.proofs.Written.{value_of-graft}
use Rattle.json_lines.specs.Working.Children.{AreRead}
use Rattle.json_lines.proofs.Naming.{none_null}
use Rattle.json_lines.proofs.children.Children.into_node.Goals as goal

pub returns : goal.returns
returns c =
    let cs = c.args.self in
    let are = subst AreRead c.self.view_is c.self.invariant in
    ap value_of (c.in_ok-node.ensures.tree ∙ ap graft c.self.view_is) ∙ value_of-graft cs (record { some = c.requires; ascending = are.ascending; each = none_null cs are.plain })
