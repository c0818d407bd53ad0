use Rattle.std.proofs.Common.{Some, ◌∙◌, ap, sym}
use Rattle.serde_json.specs.View.{view}
use Rattle.tree_model.specs.Tree.{non_null}
use Rattle.json_tree.specs.Json.{of_json}
use Rattle.json_tree.proofs.Drafting.{draft_of_some, draft_of_none}
use Rattle.json_tree.proofs.draft_value.fixed.Goals as goal

pub returns-in-Some : goal.returns-in-Some
returns-in-Some c = ap Some c.fixed.ensures ∙ draft_of_some c.in-Some.node (of_json (view c.args.value.now)) (sym c.in-Some.is ∙ c.in_ok-node.ensures) ∙ ap non_null c.requires.fixed

pub returns-in-None : goal.returns-in-None
returns-in-None c = draft_of_none (of_json (view c.args.value.now)) (sym c.in-None.is ∙ c.in_ok-node.ensures) ∙ ap non_null c.requires.fixed
