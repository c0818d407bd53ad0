use Rattle.std.proofs.Common.{◌∙◌, ap, sym, ◌∷◌}
use Rattle.std.specs.Ordering.{ordering_reverse}
use Rattle.tree_model.specs.Key.{key_cmp}
use Rattle.tree_model.proofs.Orders.{keys_total}
use Rattle.path_capture.proofs.pattern.Part.compare.Goals as goal

pub returns-in-Capture-Literal : goal.returns-in-Capture-Literal
returns-in-Capture-Literal c =
    let name = c.in-Capture-Literal.field-0-0 in
    rw (c.in-Capture-Literal.is-0, c.in-Capture-Literal.is-1) (
    c.reverse.ensures
    ∙ ap ordering_reverse (c.compare_with_capture-in-Capture-Literal.ensures name ∙ ap (λ k. key_cmp k (36 ∷ name)) c.text-in-Capture-Literal.ensures.bytes)
    ∙ sym (keys_total.antisymm (36 ∷ name) c.in-Capture-Literal.key))
