use Rattle.std.proofs.Common.{◌≡◌, ◌∙◌, Some, IfOk, sym, ap, subst}
use Rattle.path_capture.specs.Write.{tree_or_null}
use Rattle.tree_model.specs.PathMap.{sub}
use Rattle.tree_model.specs.Tree.{Tree, non_null}
use Rattle.judge.proofs.Coming.{tree_or_null-non_null}
use Rattle.tree_model.proofs.Lookups.{sub-null}
use Rattle.listeners.specs.Selection.{selection}
use Rattle.rtdb_core.proofs.moved.selected.Goals as goal
use Rattle.rtdb_core.proofs.moved.selected.Goals.{in-Some, in-None}

pub returns : goal.returns
returns c =
    let found : tree_or_null c.match-tree.found ≡ sub (tree_or_null c.args.tree.now) c.args.path.now =
    elim c.match-tree.branch [
      | in-Some w ↦ ap tree_or_null (w.found-is ∙ w.at-found.ensures) ∙ tree_or_null-non_null (sub w.in-Some.tree c.args.path.now) ∙ ap (λ t. sub (tree_or_null t) c.args.path.now) (sym w.in-Some.is)
      | in-None w ↦ ap tree_or_null w.found-is ∙ sym (sub-null c.args.path.now) ∙ ap (λ t. sub (tree_or_null t) c.args.path.now) (sym w.in-None.is)
    ]
    in
    subst (λ (t : Tree). IfOk c.select.result (λ found. found ≡ non_null (selection t (Some c.args.query.now)))) found c.select.ensures
