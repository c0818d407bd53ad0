use Rattle.std.proofs.Common.{◌∙◌, Option, sym, ap}
use Rattle.tree_model.specs.Tree.{Tree}
use Rattle.path_capture.specs.Write.{tree_or_null}
use Rattle.listeners.specs.Selection.{is_selected}
use Rattle.rtdb_core.proofs.Selecting.{none_of_null}
use Rattle.rtdb_core.proofs.children.is_selected.Goals as goal

pub returns-in-Some : goal.returns-in-Some
returns-in-Some c = c.selects.ensures ∙ ap (λ (o : Option Tree). is_selected c.args.query.now (tree_or_null o) c.args.key.now) (sym c.in-Some.is)

pub returns-in-None : goal.returns-in-None
returns-in-None c = none_of_null c.args.query.now c.args.key.now ∙ ap (λ (o : Option Tree). is_selected c.args.query.now (tree_or_null o) c.args.key.now) (sym c.in-None.is)
