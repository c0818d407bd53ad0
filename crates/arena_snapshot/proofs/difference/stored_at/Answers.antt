use Rattle.std.proofs.Common.{sym, ap, ◌∙◌}
use Rattle.tree_model.specs.PathMap.{sub}
use Rattle.tree_model.specs.Tree.{non_null}
use Rattle.tree_model.proofs.Existence.{non_null-null}
use Rattle.tree_model.proofs.Lookups.{sub-null}
use Rattle.json_tree.proofs.Building.{tree_from_some, null_from_none}
use Rattle.arena_snapshot.specs.View.{node_or_null}
use Rattle.arena_snapshot.proofs.difference.stored_at.Goals as goal

pub returns-in_err-view : goal.returns-in_err-view
returns-in_err-view c =
    let none = null_from_none (node_or_null c.args.base) (sym c.in_err-view.was ∙ c.stored.ensures) in
    c.from_residual.ensures ∙ sym (ap (λ t. non_null (sub t c.args.keys.now)) none ∙ ap non_null (sub-null c.args.keys.now) ∙ non_null-null)

pub returns : goal.returns
returns c =
    let here = tree_from_some (node_or_null c.args.base) c.in_ok-view.view (sym c.in_ok-view.was ∙ c.stored.ensures) in
    c.below.ensures ∙ ap (λ t. non_null (sub t c.args.keys.now)) here.0
