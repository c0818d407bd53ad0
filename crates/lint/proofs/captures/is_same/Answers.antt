use Rattle.std.proofs.Common.{◌≡◌, sym, ap, ◌∙◌}
use Rattle.std.specs.Str.{bytes_eq}
use Rattle.std.proofs.lemmas.Slice.Eq.{bytes_eq-Decides}
use Rattle.tree_model.proofs.Choices.{not_true, true_is_not_false}
use Rattle.tree_model.proofs.Orders.{same_path}
use Rattle.path_capture.specs.Path.{printed}
use Rattle.lint.specs.Working.{path_eq, place}
use Rattle.lint.proofs.captures.is_same.Goals as goal

pub returns-then-eq : goal.returns-then-eq
returns-then-eq c = λ h.
    not_true (path_eq (place c.args.other) (place c.args.one)) (λ same.
    let is = same_path (place c.args.other) (place c.args.one) same in
    let at : c.args.other.node.now.at ≡ c.args.one.node.now.at = cc in
    let text = c.pattern_text.ensures ∙ ap printed (sym at) ∙ sym c.pattern_text-then-eq.ensures in
    true_is_not_false (bytes_eq c.pattern_text.result.now c.pattern_text-then-eq.result.now) ((bytes_eq-Decides _ _).1 text) (sym c.eq-then-eq.ensures ∙ h))
