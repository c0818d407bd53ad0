use Rattle.std.proofs.Common.{length, sym, ap, ◌∙◌, arith}
use Rattle.std.proofs.lemmas.Result.{on_ok_weaker}
use Rattle.tree_model.specs.PathMap.{depth}
use Rattle.tree_model.specs.Put.{location, written}
use Rattle.tree_model.specs.Draft.{tree_at}
use Rattle.tree_model.proofs.Drafts.{depth-at}
use Rattle.path_capture.specs.Write.{draft_or_null}
use Rattle.path_capture.proofs.Rewinding.{same_or_null}
use Rattle.path_capture.proofs.Drafted.{made_from}
use Rattle.path_capture.proofs.write.Write.make.Goals as goal

pub put-requires : goal.put-requires
put-requires c =
    let deep = ap depth (same_or_null c.into_tree.result ∙ c.into_tree.ensures.tree) ∙ depth-at 0 (draft_or_null c.self.inside.draft) in
    let long = ap length c.into_keys.ensures in
    let room = c.self.invariant.depth in
    omega arith

pub returns-clause-ok : goal.returns-clause-ok
returns-clause-ok c =
    on_ok_weaker c.put.result (λ done now.
    sym (same_or_null c.put.new.tree)
    ∙ done
    ∙ made_from c.args.tree.now c.into_tree.result c.into_keys.result.items c.args.self now c.requires.fixed (c.into_keys.ensures ∙ ap location c.self.view_is) (c.into_tree.ensures.tree ∙ ap (λ write. tree_at 0 (written write)) c.self.view_is)) c.put.ensures.ok
