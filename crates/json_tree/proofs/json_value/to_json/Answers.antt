use Rattle.std.proofs.Common.{sym, ◌∙◌}
use Rattle.json_tree.proofs.Values.{view-Null}
use Rattle.json_tree.proofs.Written.{value_of-null}
use Rattle.json_tree.proofs.json_value.to_json.Goals as goal

pub returns-in-None : goal.returns-in-None
returns-in-None c = rw c.in-None.is (view-Null ∙ sym value_of-null)
