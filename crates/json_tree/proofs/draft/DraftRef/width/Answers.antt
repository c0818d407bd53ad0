use Rattle.std.proofs.Common.{◌∙◌, ap, length}
use Rattle.json_tree.specs.Working.Marks.{marks_seen}
use Rattle.json_tree.proofs.Marks.{keys_seen}
use Rattle.json_tree.proofs.draft.DraftRef.width.Goals as goal

pub returns : goal.returns
returns c = c.width.ensures ∙ ap length (keys_seen c.self.inside.node.now (marks_seen c.self.inside.marks) c.args.self.now c.self.view_is)
