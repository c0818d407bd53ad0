use Rattle.std.proofs.Common.{◌∙◌, subst, sym, ap, List, ℕ, ◌<◌}
use Rattle.std.specs.Char.{is_ascii_digit}
use Rattle.expr_tokens.specs.declared.token.Token.TheVariants as t
use Rattle.expr_tokens.specs.Words.{begins_fraction, numeral, greatest}
use Rattle.expr_tokens.specs.Working.Scanning.{IsRun}
use Rattle.expr_tokens.specs.Spelling.{ComesFirst}
use Rattle.expr_tokens.proofs.Runs.{run_boundary, digit_ascii}
use Rattle.expr_tokens.proofs.Fronts.{number_stands, number_fraction, number_large}
use Rattle.expr_tokens.proofs.front.number.Goals as goal

pub split_at-requires : goal.split_at-requires
split_at-requires c =
    let r = subst (λ (bytes : List ℕ). IsRun is_ascii_digit bytes c.digit_run.result) c.as_bytes.ensures.value c.digit_run.ensures in
    run_boundary is_ascii_digit digit_ascii c.args.text.now c.digit_run.result r c.utf8.text

pub returns-then-begins_fraction-clause-err : goal.returns-then-begins_fraction-clause-err
returns-then-begins_fraction-clause-err c =
    let r = subst (λ (bytes : List ℕ). IsRun is_ascii_digit bytes c.digit_run.result) c.as_bytes.ensures.value c.digit_run.ensures in
    number_fraction c.args.place c.args.text.now c.digit_run.result r c.requires
    (ap begins_fraction (sym (c.as_bytes-2.ensures.value ∙ c.split_at.ensures.back)) ∙ sym c.begins_fraction.ensures ∙ c.if-begins_fraction.true)

pub returns-in_default-clause-err : goal.returns-in_default-clause-err
returns-in_default-clause-err c =
    let r = subst (λ (bytes : List ℕ). IsRun is_ascii_digit bytes c.digit_run.result) c.as_bytes.ensures.value c.digit_run.ensures in
    number_large c.args.place c.args.text.now c.digit_run.result r c.requires
    (ap begins_fraction (sym (c.as_bytes-2.ensures.value ∙ c.split_at.ensures.back)) ∙ sym c.begins_fraction.ensures ∙ c.if-begins_fraction.false)
    (subst (λ (z : List ℕ). greatest < numeral z) (c.as_bytes-3.ensures.value ∙ c.split_at.ensures.front) c.in_default.ensures.none)

pub returns-clause-ok : goal.returns-clause-ok
returns-clause-ok c = λ d.
    let r = subst (λ (bytes : List ℕ). IsRun is_ascii_digit bytes c.digit_run.result) c.as_bytes.ensures.value c.digit_run.ensures in
    subst (λ (z : List ℕ). ComesFirst d c.args.text.now (t.Number c.in-Some.value) z) (sym c.split_at.ensures.back)
    (number_stands c.args.text.now c.digit_run.result c.in-Some.value r c.requires
    (ap begins_fraction (sym (c.as_bytes-2.ensures.value ∙ c.split_at.ensures.back)) ∙ sym c.begins_fraction.ensures ∙ c.if-begins_fraction.false)
    (c.in-Some.ensures.some.0 ∙ ap numeral (c.as_bytes-3.ensures.value ∙ c.split_at.ensures.front)) c.in-Some.ensures.some.1 d)
