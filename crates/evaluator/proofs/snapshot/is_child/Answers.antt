use Rattle.std.proofs.Common.{◌<◌, ◌∙◌, length, ap, sym, arith}
use Rattle.std.proofs.lemmas.Bool.{OnTrue_from, ltb-true}
use Rattle.tree_model.specs.declared.limits.TheConstants.{MAX_DEPTH}
use Rattle.evaluator.specs.Working.Places.{down}
use Rattle.evaluator.proofs.Pieces.{child_exists}
use Rattle.evaluator.proofs.snapshot.is_child.Goals as goal

pub returns-then-is_some : goal.returns-then-is_some
returns-then-is_some c = OnTrue_from _ _ (λ less.
    let below : c.depth.result < MAX_DEPTH = ltb-true _ _ less in
    let room : length c.args.place.now.1 < MAX_DEPTH = omega arith in
    child_exists c.args.place.now c.args.text.now _ (c.child_of.ensures.lawful (sym c.is_some.ensures ∙ c.if-is_some.true)) room (c.child_of.ensures.child ∙ ap (down c.args.text.now) c.view.ensures) (sym c.is_some.ensures ∙ c.if-is_some.true))
