use Rattle.std.proofs.Common.{◌≤◌, ◌<◌, refl, arith}
use Rattle.std.proofs.lemmas.Bool.{false≢true}
use Rattle.path_capture.specs.Write.{tree_or_null}
use Rattle.tree_model.specs.Tree.{count}
use Rattle.rtdb_model.specs.declared.limits.TheConstants.{MAX_LOCATIONS}
use Rattle.rtdb.proofs.opening.with_tokens.Goals as goal

pub returns-in-Ok : goal.returns-in-Ok
returns-in-Ok c = λ value is.
    let not_over : ¬ (MAX_LOCATIONS < count (tree_or_null c.args.tree)) = (λ over. false≢true (c.in-Ok.ensures.refused.1 over)) in
    let room : count (tree_or_null c.args.tree) ≤ MAX_LOCATIONS = omega arith in
    (tree_or_null c.args.tree, is, refl, room, c.in-Ok.ensures.opens)

pub returns-in-Err : goal.returns-in-Err
returns-in-Err c = λ value is. (tree_or_null c.args.tree, c.args.tokens, is, refl, c.in-Err.ensures.refused.0 refl)
