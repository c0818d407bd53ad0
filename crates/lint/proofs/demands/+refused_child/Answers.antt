use Rattle.std.proofs.Common.{◌≡◌, true, sym, ap, ◌∙◌}
use Rattle.tree_model.proofs.Choices.{both_so}
use Rattle.expr_parser.specs.View.{view}
use Rattle.expr_parser.proofs.Knots.{view-Call}
use Rattle.lint.specs.Demands.{is_new_data, asks_child}
use Rattle.lint.proofs.Lists.{if_some_so}
use Rattle.lint.proofs.demands.+refused_child.Goals as goal

pub returns-then-is_new_data : goal.returns-then-is_new_data
returns-then-is_new_data t c =
    let seen = ap view c.in-Call.is ∙ view-Call c.in-Call.receiver c.in-Call.name c.in-Call.arguments in
    let of_new_data : is_new_data (view c.in-Call.receiver.value) ≡ true = ap (λ x. is_new_data (view x)) (sym c.deref-in-Call.ensures) ∙ sym c.is_new_data.ensures ∙ c.if-is_new_data.true in
    if_some_so _ _ c.refused_in_call.result
    (λ refused h. (ap (asks_child refused.child.now) seen ∙ both_so _ _ of_new_data h.0, h.1))
    c.refused_in_call.ensures
