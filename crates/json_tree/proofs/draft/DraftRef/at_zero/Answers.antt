use Rattle.std.proofs.Common.{◌∙◌, sym, ap}
use Rattle.tree_model.specs.Draft.{tree_at}
use Rattle.json_tree.specs.Working.Marks.{marks_seen}
use Rattle.json_tree.proofs.Marks.{tree-drafted}
use Rattle.json_tree.proofs.draft.DraftRef.at_zero.Goals as goal

pub returns : goal.returns
returns c = sym (tree-drafted c.self.inside.node.now (marks_seen c.self.inside.marks) c.self.invariant) ∙ ap (tree_at 0) c.self.view_is
