use Rattle.std.proofs.Common.{◌++◌, [], ◌∷◌, sym, ap, ◌∙◌, length, arith}
use Rattle.std.specs.Borrow.{Bor}
use Rattle.tree_model.specs.Key.{Key}
use Rattle.judge.proofs.Groups.{back_step, back_end, back_whole, length-back}
use Rattle.judge.proofs.validate.place_of.Goals as goal

pub loop-left-init : goal.loop-left-init
loop-left-init c = (c.in_ok-path.ensures.items ∙ sym (back_end (λ (key : Bor Key). key.now) c.args.keys.now), omega arith)

pub loop-left-preserved : goal.loop-left-preserved
loop-left-preserved c =
    let before = c.loop-left.invariant.0 in
    let low = c.loop-left.invariant.1 in (
      c.in_ok-push.ensures.items ∙ (λ i. before i ++ c.in_ok-copy.ensures i ∷ [])
          ∙ sym (back_step (λ (key : Bor Key). key.now) c.args.keys.now c.loop-left.left c.index-keys-left.result c.loop-left-test.true low c.index-keys-left.is),
      omega arith,
    )

pub of_keys-requires : goal.of_keys-requires
of_keys-requires c =
    let few = c.requires in
    let same = c.loop-left.invariant.0 ∙ back_whole (λ (key : Bor Key). key.now) c.args.keys.now c.loop-left.left c.loop-left-test.false in
    let long = length-back (λ (key : Bor Key). key.now) c.args.keys.now in
    omega (arith, ap length same)

pub returns : goal.returns
returns c = c.of_keys.ensures ∙ c.loop-left.invariant.0 ∙ back_whole (λ (key : Bor Key). key.now) c.args.keys.now c.loop-left.left c.loop-left-test.false
