use Rattle.std.proofs.Common.{Some, sym, ap, ◌∙◌}
use Rattle.tree_model.specs.Tree.{non_null}
use Rattle.tree_model.specs.Put.{written}
use Rattle.tree_model.specs.Draft.{tree_at}
use Rattle.tree_model.proofs.Writes.{non_null-at, null-at}
use Rattle.json_tree.proofs.Building.{tree_from_some, null_from_none}
use Rattle.arena_snapshot.proofs.proposal.shown.Goals as goal

pub returns-in_ok-at_moment-in-Some : goal.returns-in_ok-at_moment-in-Some
returns-in_ok-at_moment-in-Some c =
    let d = written c.args.write.now in
    let from = tree_from_some d c.in-Some.draft.now c.in-Some.ensures in
    ap Some (c.in_ok-at_moment-in-Some.ensures ∙ ap (tree_at c.args.now) (c.as_ref.ensures ∙ from.0)) ∙ non_null-at c.args.now d from.1

pub returns-in-None : goal.returns-in-None
returns-in-None c = null-at c.args.now ∙ ap (λ d. non_null (tree_at c.args.now d)) (sym (null_from_none (written c.args.write.now) c.in-None.ensures))
