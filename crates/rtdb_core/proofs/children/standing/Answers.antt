use Rattle.std.proofs.Common.{◌∙◌, Option, sym, ap}
use Rattle.tree_model.specs.PathMap.{sub}
use Rattle.tree_model.specs.Tree.{Tree, non_null}
use Rattle.path_capture.specs.Write.{tree_or_null}
use Rattle.rtdb_core.proofs.Passing.{nothing_below}
use Rattle.rtdb_core.proofs.children.standing.Goals as goal

pub returns-in-None : goal.returns-in-None
returns-in-None c = sym (ap (λ (o : Option Tree). non_null (sub (tree_or_null o) c.args.path.now)) c.in-None.is ∙ nothing_below c.args.path.now)
