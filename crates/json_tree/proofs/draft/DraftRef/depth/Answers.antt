use Rattle.std.proofs.Common.{◌∙◌}
use Rattle.json_tree.specs.Working.Marks.{marks_seen}
use Rattle.json_tree.proofs.Marks.{depth_seen}
use Rattle.json_tree.proofs.draft.DraftRef.depth.Goals as goal

pub returns : goal.returns
returns c = c.depth.ensures ∙ depth_seen c.self.inside.node.now (marks_seen c.self.inside.marks) c.args.self.now c.self.view_is
