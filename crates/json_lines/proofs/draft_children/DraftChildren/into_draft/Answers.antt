use Rattle.std.proofs.Common.{◌∙◌, ap, subst}
use Rattle.tree_model.specs.Children.{graft}
use Rattle.json_tree.specs.Draft.{value_of_draft}
use Rattle.json_tree.proofs.DraftWritten.{value_of_draft-graft}
use Rattle.json_lines.specs.Working.Children.{AreRead}
use Rattle.json_lines.proofs.Naming.{none_null}
use Rattle.json_lines.proofs.draft_children.DraftChildren.into_draft.Goals as goal

pub returns : goal.returns
returns c =
    let cs = c.args.self in
    let are = subst AreRead c.self.view_is c.self.invariant in
    ap value_of_draft (c.in_ok-draft.ensures ∙ ap graft c.self.view_is) ∙ value_of_draft-graft cs (record { some = c.requires; ascending = are.ascending; each = none_null cs are.plain })
