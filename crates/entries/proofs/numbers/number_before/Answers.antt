use Rattle.entries.proofs.Fronts.{if_none, no_space, first_number}
use Rattle.entries.proofs.numbers.number_before.Goals as goal

pub returns-in_err-end-clause-none : goal.returns-in_err-end-clause-none
returns-in_err-end-clause-none c = if_none _ c.from_residual.result (λ n rest fits is. no_space c.args.text.now c.in_err-end.ensures n rest is)

pub returns-in_err-number-clause-none : goal.returns-in_err-number-clause-none
returns-in_err-number-clause-none c = if_none _ c.from_residual-in_err-number.result (λ n rest fits is. c.in_err-number.ensures.none n fits (first_number c.args.text.now _ c.in_ok-end.end c.in_ok-end.ensures.0 c.in_ok-end.ensures.1 c.split_at.ensures.front n rest fits is))
