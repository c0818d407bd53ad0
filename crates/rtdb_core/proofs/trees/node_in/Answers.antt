use Rattle.std.proofs.Common.{Option, sym, ap, ◌∙◌}
use Rattle.std.specs.Borrow.{Bor}
use Rattle.tree_model.specs.PathMap.{sub}
use Rattle.tree_model.specs.Tree.{Tree, non_null}
use Rattle.arena_snapshot.specs.View.{node_or_null}
use Rattle.rtdb_core.proofs.Passing.{nothing_below}
use Rattle.rtdb_core.proofs.trees.node_in.Goals as goal

pub returns-in-None : goal.returns-in-None
returns-in-None c = sym (nothing_below c.args.path.now) ∙ ap (λ (t : Option (Bor Tree)). non_null (sub (node_or_null t) c.args.path.now)) (sym c.in-None.is)
