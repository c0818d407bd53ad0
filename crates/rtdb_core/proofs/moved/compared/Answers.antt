use Rattle.std.proofs.Common.{◌≡◌, ◌∙◌, not, Some, ap}
use Rattle.path_capture.specs.Write.{tree_or_null}
use Rattle.tree_model.specs.PathMap.{sub}
use Rattle.tree_model.specs.Tree.{Tree}
use Rattle.judge.proofs.Coming.{tree_or_null-non_null}
use Rattle.listeners.specs.Selection.{selection}
use Rattle.rtdb_core.specs.Working.Passages.{tree_before, tree_after}
use Rattle.rtdb_core.proofs.Passing.{stored_tree, moved_by}
use Rattle.rtdb_core.proofs.moved.compared.Goals as goal

pub returns : goal.returns
returns c =
    let p = c.args.passage.now in
    let query = c.args.query.now in
    let before : tree_or_null c.in_ok-before.before ≡ selection (sub (tree_before p) c.args.path.now) (Some query) =
    ap tree_or_null c.in_ok-before.ensures
    ∙ tree_or_null-non_null (selection (sub (tree_or_null c.stored.result) c.args.path.now) (Some query))
    ∙ ap (λ (t : Tree). selection (sub t c.args.path.now) (Some query)) (ap tree_or_null c.stored.ensures ∙ stored_tree p.base) in
    let after : tree_or_null c.in_ok-after.after ≡ selection (sub (tree_after p) c.args.path.now) (Some query) =
    ap tree_or_null c.in_ok-after.ensures
    ∙ tree_or_null-non_null (selection (sub (tree_or_null p.coming) c.args.path.now) (Some query))
    ∙ ap (λ (t : Tree). selection (sub t c.args.path.now) (Some query)) c.requires.coming in
    ap not c.are_same.ensures
    ∙ moved_by (tree_before p) (tree_after p) c.args.path.now query c.in_ok-before.before c.in_ok-after.after before after
