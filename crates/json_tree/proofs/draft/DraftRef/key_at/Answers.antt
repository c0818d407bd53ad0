use Rattle.std.proofs.Common.{◌∙◌, ap}
use Rattle.std.specs.Prelude.{slice_get}
use Rattle.json_tree.specs.Working.Marks.{marks_seen}
use Rattle.json_tree.proofs.Marks.{keys_seen}
use Rattle.json_tree.proofs.draft.DraftRef.key_at.Goals as goal

pub returns : goal.returns
returns c = c.key_at.ensures ∙ ap (λ keys. slice_get keys c.args.i) (keys_seen c.self.inside.node.now (marks_seen c.self.inside.marks) c.args.self.now c.self.view_is)
