use Rattle.std.proofs.Common.{◌≡◌, codes, true, sym, ap, ◌∙◌}
use Rattle.std.specs.Str.{bytes_eq}
use Rattle.tree_model.proofs.Choices.{both_so}
use Rattle.lint.proofs.Asked.{asked_of_list}
use Rattle.lint.proofs.Lists.{if_some_so}
use Rattle.lint.proofs.demands.refused_argument.Goals as goal

pub returns-then-eq-2 : goal.returns-then-eq-2
returns-then-eq-2 c =
    let named : bytes_eq c.args.name.now (codes "hasChildren") ≡ true = ap (λ s. bytes_eq s (codes "hasChildren")) (sym c.as_str-in-List.ensures) ∙ sym c.eq-in-List.ensures ∙ c.if-eq-2.true in
    if_some_so _ _ c.refused_element.result
    (λ refused h. (asked_of_list (λ text. bytes_eq text refused.child.now) c.args.name.now c.args.argument.now c.in-List.elements c.in-List.is ∙ both_so _ _ named h.0, h.1))
    c.refused_element.ensures
