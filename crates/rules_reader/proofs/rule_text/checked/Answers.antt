use Rattle.std.proofs.lemmas.Result.{err_from_is_err_and}
use Rattle.expr_parser.specs.View.{view}
use Rattle.rules_reader.proofs.Unreads.{type_stops}
use Rattle.rules_reader.proofs.rule_text.checked.Goals as goal

pub returns-in_err-rule-clause-fault : goal.returns-in_err-rule-clause-fault
returns-in_err-rule-clause-fault c =
    let p = err_from_is_err_and c.from_residual-in_err-rule.result c.from_residual-in_err-rule.ensures.1 in
    rw (p.1, p.2) (λ at e. type_stops at c.args.kind c.args.text.now (view c.in_ok-expr.expr) c.in_err-rule.field-0.0 c.place.result _ c.in_ok-expr.ensures.found e c.place.ensures c.in_err-rule.ensures.refused)
