use Rattle.std.proofs.Common.{◌≡◌, ◌+◌, ◌-◌, get_or, ⊎_elim, is_lt, sym, ap, ◌∙◌, arith}
use Rattle.std.proofs.lemmas.Bool.{cases_lt}
use Rattle.std.proofs.lemmas.List.{get_or_default}
use Rattle.listeners.specs.Working.Items.{item_cmp}
use Rattle.listeners.proofs.edge.is_in_order.Goals as goal

pub loop-i-preserved : goal.loop-i-preserved
loop-i-preserved c k d low high =
    let items = c.args.items.now in
    ⊎_elim
    (λ before. c.loop-i.invariant k d low before)
    (λ here.
    let next : k + 1 ≡ c.loop-i.i = omega arith in
    let this : k ≡ c.loop-i.i - 1 = omega arith in
    let later : get_or items (k + 1) d ≡ c.index-items-i.result = ap (λ n. get_or items n d) next ∙ get_or_default items c.loop-i.i d c.index-items-i.result c.loop-i-test.true ∙ sym c.index-items-i.is in
    let earlier : get_or items k d ≡ c.index-items-i-in-loop-i.result = ap (λ n. get_or items n d) this ∙ get_or_default items (c.loop-i.i - 1) d c.index-items-i-in-loop-i.result (omega (arith, c.loop-i-test.true)) ∙ sym c.index-items-i-in-loop-i.is in
    (λ j. is_lt (item_cmp (later j) (earlier j))) ∙ ap is_lt (sym c.compare.ensures) ∙ sym c.is_lt.ensures ∙ c.if-is_lt.false)
    (cases_lt (k + 1) c.loop-i.i)
