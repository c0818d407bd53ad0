use Rattle.std.proofs.Common.{◌∷◌, ◌++◌, [], length, ap, ◌∙◌, arith}
use Rattle.tree_model.specs.PathMap.{depth}
use Rattle.tree_model.proofs.Drafts.{depth-at}
use Rattle.path_capture.specs.Write.{draft_or_null}
use Rattle.path_capture.proofs.Rewinding.{undoes_or_null}
use Rattle.path_capture.proofs.update.make_put.Goals as goal

pub put_with_undo-requires : goal.put_with_undo-requires
put_with_undo-requires c =
    let deep = ap depth c.into_at_zero.ensures ∙ depth-at 0 c.in-Some.draft in
    let whole = ap (λ draft. depth (draft_or_null draft)) c.in-Some.is in
    let long = ap length c.into_keys.ensures in
    let room = c.write.invariant.depth in
    omega arith

pub returns-clause-one_more : goal.returns-clause-one_more
returns-clause-one_more c = record {
  undo = c.in_ok-undo.undo;
  added = c.in_ok-push.ensures.items ∙ ap (λ us. us ++ c.in_ok-undo.undo ∷ []) c.in_ok-reserve.ensures.items;
  undoes = undoes_or_null c.in_ok-undo.undo c.put_with_undo.new.tree c.args.tree.now c.in_ok-undo.ensures.undo;
}
