use Rattle.std.proofs.Common.{◌+◌, ◌<◌, ◌%◌, ◌++◌, ◌∷◌, [], arith, sym, ◌∙◌, ap, append_assoc}
use Rattle.std.proofs.lemmas.List.{append-nil}
use Rattle.journal.proofs.Digits.{no_digits, digits_step}
use Rattle.journal.proofs.text.+push_digits.Goals as goal

pub returns-then-width-eq0 : goal.returns-then-width-eq0
returns-then-width-eq0 t c =
    let text = c.args.text.now.items in
    sym (append-nil text) ∙ ap (λ l. text ++ l) (sym (no_digits c.args.width c.args.number (omega arith)))

pub returns : goal.returns
returns t c =
    let text = c.args.text.now.items in
    let some : 0 < c.args.width = omega arith in
    c.in_ok-push.ensures.items ∙ ap (λ l. l ++ (48 + c.args.number % 10) ∷ []) c.in_ok-push_digits.ensures
    ∙ append_assoc text _ ((48 + c.args.number % 10) ∷ []) ∙ ap (λ l. text ++ l) (sym (digits_step c.args.width c.args.number some))
