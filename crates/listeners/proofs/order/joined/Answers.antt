use Rattle.std.proofs.Common.{◌++◌, ◌∷◌, [], string_bytes, lit<, sym, ap, ◌∙◌, append_assoc}
use Rattle.listeners.proofs.Joined.{joined_first, joined_more}
use Rattle.listeners.proofs.order.joined.Goals.{then-i-gt0+in_ok-push, else-i-gt0}
use Rattle.listeners.proofs.order.joined.Goals as goal

pub loop-i-preserved : goal.loop-i-preserved
loop-i-preserved c =
    let keys = c.args.keys.now in
    let key = c.index-keys-i.result in
    let pushed = c.in_ok-push_str.ensures.bytes ∙ ap (λ k. string_bytes c.if-i-gt0.text ++ k) c.text.ensures.bytes in
    elim c.if-i-gt0.branch [
      | then-i-gt0+in_ok-push w ↦
          pushed
          ∙ ap (λ text. string_bytes text ++ key) w.text-is
          ∙ ap (λ text. text ++ key) (w.in_ok-push.ensures.bytes ∙ (λ i. c.loop-i.invariant i ++ w.in_ok-push.ensures.ascii (lit< tt) i))
          ∙ append_assoc _ (47 ∷ []) key
          ∙ sym (joined_more keys c.loop-i.i key w.if-i-gt0.true c.loop-i-test.true c.index-keys-i.is)
      | else-i-gt0 w ↦
          pushed
          ∙ ap (λ text. string_bytes text ++ key) w.text-is
          ∙ ap (λ text. text ++ key) c.loop-i.invariant
          ∙ sym (joined_first keys c.loop-i.i key w.if-i-gt0.false c.loop-i-test.true c.index-keys-i.is)
    ]
