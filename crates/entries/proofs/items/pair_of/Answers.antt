use Rattle.std.proofs.Common.{List, sym, ◌∙◌, ap, length, get_or}
use Rattle.serde_json.specs.declared.value.Value.{Value}
use Rattle.entries.proofs.Pairs.{no_pair, is_pair}
use Rattle.entries.proofs.items.pair_of.Goals as goal

pub returns-then-items-ne2 : goal.returns-then-items-ne2
returns-then-items-ne2 c = sym (no_pair _ c.in_ok-as_array.field-0.now.items (sym c.in_ok-as_array.ensures) (λ e. c.if-items-ne2.true (ap (λ (vs : List Value). length vs) c.as_slice-items.ensures.value ∙ e)))

pub returns : goal.returns
returns c =
    let same = c.as_slice-items.ensures.value in
    sym (is_pair _ c.in_ok-as_array.field-0.now.items c.index-items-0.result c.index-items-1.result (sym c.in_ok-as_array.ensures)
    (ap (λ (vs : List Value). length vs) (sym same) ∙ c.if-items-ne2.false)
    (c.index-items-0.is ∙ ap (λ (vs : List Value). get_or vs 0 c.index-items-0.result) same)
    (c.index-items-1.is ∙ ap (λ (vs : List Value). get_or vs 1 c.index-items-1.result) same))
