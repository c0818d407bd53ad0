use Rattle.std.proofs.Common.{◌∙◌, ap, sym, ◌∷◌}
use Rattle.std.specs.Ordering.{ordering_reverse}
use Rattle.tree_model.specs.Key.{key_cmp}
use Rattle.tree_model.proofs.Orders.{keys_total}
use Rattle.path_capture.proofs.pattern.Part.compare_key.Goals as goal

pub returns-in-Capture : goal.returns-in-Capture
returns-in-Capture c =
    let name = c.in-Capture.field-0 in
    rw c.in-Capture.is (
    c.reverse.ensures
    ∙ ap ordering_reverse (c.compare_with_capture.ensures name ∙ ap (λ k. key_cmp k (36 ∷ name)) c.text-in-Capture.ensures.bytes)
    ∙ sym (keys_total.antisymm (36 ∷ name) c.args.key.now))
