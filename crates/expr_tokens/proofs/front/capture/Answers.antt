use Rattle.std.proofs.Common.{◌∙◌, subst, sym, ap, List, ℕ, take, drop}
use Rattle.std.specs.Str.{IsCharBoundary}
use Rattle.expr_tokens.specs.declared.token.Token.TheVariants as t
use Rattle.expr_tokens.specs.Words.{is_name_byte}
use Rattle.expr_tokens.specs.Working.Scanning.{IsRun, begins_name}
use Rattle.expr_tokens.specs.Spelling.{ComesFirst}
use Rattle.expr_tokens.proofs.Runs.{run_boundary, byte_ascii}
use Rattle.expr_tokens.proofs.Fronts.{dollar_boundary, dollar_fails, dollar_stands}
use Rattle.expr_tokens.proofs.front.capture.Goals as goal

pub split_at-requires : goal.split_at-requires
split_at-requires c = dollar_boundary c.args.text.now c.requires c.utf8.text

pub returns-then-not-begins_name-clause-err : goal.returns-then-not-begins_name-clause-err
returns-then-not-begins_name-clause-err c = dollar_fails c.args.place c.args.text.now c.requires
    (ap begins_name (sym (c.as_bytes.ensures.value ∙ c.split_at.ensures.back)) ∙ sym c.begins_name.ensures ∙ c.if-not-begins_name.true)

pub split_at-requires-2 : goal.split_at-requires-2
split_at-requires-2 c = subst (λ (z : List ℕ). IsCharBoundary z c.name_run.result) c.as_bytes-2.ensures.value
    (run_boundary is_name_byte byte_ascii c.as_bytes-2.result.now c.name_run.result c.name_run.ensures c.as_bytes-2.ensures.utf8)

pub returns-clause-ok : goal.returns-clause-ok
returns-clause-ok c = λ d.
    let r = subst (λ (z : List ℕ). IsRun is_name_byte z c.name_run.result) (c.as_bytes-2.ensures.value ∙ c.split_at.ensures.back) c.name_run.ensures in
    let b = ap begins_name (sym (c.as_bytes.ensures.value ∙ c.split_at.ensures.back)) ∙ sym c.begins_name.ensures ∙ c.if-not-begins_name.false in
    let s = dollar_stands c.args.text.now c.name_run.result c.requires r b d in
    let e = c.of_text.ensures ∙ c.split_at-2.ensures.front ∙ ap (take c.name_run.result) c.split_at.ensures.back in
    let f = c.split_at-2.ensures.back ∙ ap (drop c.name_run.result) c.split_at.ensures.back in
    subst (λ (z : List ℕ). ComesFirst d c.args.text.now (t.Capture c.of_text.result) z) (sym f)
    (subst (λ (w : List ℕ). ComesFirst d c.args.text.now (t.Capture w) (drop c.name_run.result (drop 1 c.args.text.now))) (sym e) s)
