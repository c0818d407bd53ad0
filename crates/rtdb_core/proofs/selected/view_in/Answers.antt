use Rattle.std.proofs.Common.{◌≡◌, ◌∙◌, Option, IfOk, option_map, ap, subst}
use Rattle.std.specs.Borrow.{Bor}
use Rattle.tree_model.specs.PathMap.{sub}
use Rattle.tree_model.specs.Tree.{Tree, non_null}
use Rattle.path_capture.specs.Write.{tree_or_null}
use Rattle.arena_snapshot.specs.View.{node_or_null}
use Rattle.listeners.specs.Query.{Query}
use Rattle.listeners.specs.Selection.{selection}
use Rattle.listeners.proofs.Places.{tree_given}
use Rattle.rtdb_core.proofs.selected.view_in.Goals as goal

abbrev asked : Option (Bor Query) → Option Query
asked q = option_map (λ (query : Bor Query). query.now) q

pub returns : goal.returns
returns c =
    let t = sub (node_or_null c.args.tree) c.args.path.now in
    subst (λ (u : Tree). IfOk c.select.result (λ found. found ≡ non_null (selection u (asked c.args.query))))
    (ap tree_or_null c.stored.ensures ∙ tree_given _ t c.node_in.ensures)
    c.select.ensures
