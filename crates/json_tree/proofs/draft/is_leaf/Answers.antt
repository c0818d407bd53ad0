use Rattle.std.proofs.Common.{[], ◌∙◌, sym, ap, is_some}
use Rattle.tree_model.specs.PathMap.{get}
use Rattle.tree_model.proofs.Lookups.{get-null}
use Rattle.json_tree.specs.Working.Marks.{marks_seen}
use Rattle.json_tree.proofs.draft.is_leaf.Goals as goal

pub returns-in-None : goal.returns-in-None
returns-in-None c = sym (ap (λ o. is_some (get (marks_seen o) [])) c.in-None.is ∙ ap is_some (get-null []))
