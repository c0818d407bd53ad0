use Rattle.std.proofs.Common.{◌∙◌, subst, sym, ap, List, ℕ}
use Rattle.expr_tokens.specs.Token.{signs}
use Rattle.expr_tokens.specs.Working.Scanning.{first_in}
use Rattle.expr_tokens.specs.Spelling.{ComesFirst}
use Rattle.expr_tokens.proofs.Fronts.{sign_stands, sign_boundary, sign_fails}
use Rattle.expr_tokens.proofs.front.sign.Goals as goal

pub returns-in_default-clause-err : goal.returns-in_default-clause-err
returns-in_default-clause-err c = sign_fails c.args.place c.args.text.now c.requires (ap (first_in signs) (sym c.as_bytes.ensures.value) ∙ sym c.sign_at.ensures ∙ c.in_default.is)

pub split_at-requires : goal.split_at-requires
split_at-requires c = sign_boundary c.args.text.now c.in-Some.token c.in-Some.bytes (ap (first_in signs) (sym c.as_bytes.ensures.value) ∙ sym c.sign_at.ensures ∙ c.in-Some.is) c.utf8.text

pub returns-clause-ok : goal.returns-clause-ok
returns-clause-ok c = λ d.
    subst (λ (z : List ℕ). ComesFirst d c.args.text.now c.in-Some.token z) (sym c.split_at.ensures.back)
    (sign_stands c.args.text.now c.in-Some.token c.in-Some.bytes c.requires (ap (first_in signs) (sym c.as_bytes.ensures.value) ∙ sym c.sign_at.ensures ∙ c.in-Some.is) d)
