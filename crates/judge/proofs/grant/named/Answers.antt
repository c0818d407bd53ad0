use Rattle.std.proofs.Common.{◌++◌, [], ◌∷◌, sym, ◌∙◌, arith}
use Rattle.judge.specs.declared.grant.Seen.{Seen}
use Rattle.judge.proofs.Groups.{back_step, back_end, back_whole}
use Rattle.judge.proofs.grant.named.Goals as goal

pub loop-left-init : goal.loop-left-init
loop-left-init c = (c.in_ok-named.ensures.items ∙ sym (back_end (λ (s : Seen). record { pattern = s.pattern.now; why = s.why }) c.args.seen.now), omega arith)

pub loop-left-preserved : goal.loop-left-preserved
loop-left-preserved c =
    let before = c.loop-left.invariant.0 in
    let low = c.loop-left.invariant.1 in
    let rule = c.index-seen-left.result in (
      c.in_ok-push.ensures.items ∙ (λ i. before i ++ record { pattern = c.in_ok-copy.ensures i; why = rule.why } ∷ [])
          ∙ sym (back_step (λ (s : Seen). record { pattern = s.pattern.now; why = s.why }) c.args.seen.now c.loop-left.left rule c.loop-left-test.true low c.index-seen-left.is),
      omega arith,
    )

pub returns : goal.returns
returns c = c.of_vec.ensures ∙ c.loop-left.invariant.0 ∙ back_whole (λ (s : Seen). record { pattern = s.pattern.now; why = s.why }) c.args.seen.now c.loop-left.left c.loop-left-test.false
