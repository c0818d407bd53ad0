use Rattle.std.proofs.Common.{Some, IfOk, ◌≡◌, ◌∙◌, ap, subst}
use Rattle.tree_model.specs.PathMap.{sub}
use Rattle.tree_model.specs.Tree.{non_null}
use Rattle.path_capture.specs.Write.{tree_or_null}
use Rattle.arena_snapshot.specs.View.{node_or_null}
use Rattle.listeners.specs.Selection.{selection}
use Rattle.listeners.proofs.Places.{tree_given}
use Rattle.rtdb_core.proofs.selections.select_at.Goals as goal

pub returns : goal.returns
returns c =
    let t = sub (node_or_null c.args.tree) c.args.path.now in
    subst (λ u. IfOk c.select_apart.result (λ found. found ≡ non_null (selection u (Some c.args.query.now))))
    (ap tree_or_null c.stored-there.ensures ∙ tree_given _ t (c.node_in.ensures ∙ ap (λ p. non_null (sub (node_or_null c.args.tree) p)) c.keys.ensures.keys))
    c.select_apart.ensures
