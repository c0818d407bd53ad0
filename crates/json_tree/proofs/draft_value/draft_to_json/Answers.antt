use Rattle.std.proofs.Common.{sym, ◌∙◌}
use Rattle.json_tree.proofs.Values.{view-Null}
use Rattle.json_tree.proofs.DraftWritten.{value_of_draft-null}
use Rattle.json_tree.proofs.draft_value.draft_to_json.Goals as goal

pub returns-in-None : goal.returns-in-None
returns-in-None c = rw c.in-None.is (view-Null ∙ sym value_of_draft-null)
