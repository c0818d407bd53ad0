use Rattle.std.proofs.Common.{◌∙◌, subst, sym, ap, List, ℕ, drop}
use Rattle.expr_tokens.specs.declared.token.Token.{Token}
use Rattle.expr_tokens.specs.Words.{is_name_byte}
use Rattle.expr_tokens.specs.Token.{named}
use Rattle.expr_tokens.specs.Working.Scanning.{IsRun}
use Rattle.expr_tokens.specs.Spelling.{ComesFirst}
use Rattle.expr_tokens.proofs.Runs.{run_boundary, byte_ascii}
use Rattle.expr_tokens.proofs.Fronts.{name_stands}
use Rattle.expr_tokens.proofs.front.name.Goals as goal

pub split_at-requires : goal.split_at-requires
split_at-requires c =
    let r = subst (λ (bytes : List ℕ). IsRun is_name_byte bytes c.name_run.result) c.as_bytes.ensures.value c.name_run.ensures in
    run_boundary is_name_byte byte_ascii c.args.text.now c.name_run.result r c.utf8.text

pub returns : goal.returns
returns c =
    let r = subst (λ (bytes : List ℕ). IsRun is_name_byte bytes c.name_run.result) c.as_bytes.ensures.value c.name_run.ensures in
    let e = c.named.ensures ∙ ap (named c.args.after_dot) c.split_at.ensures.front in
    let s = name_stands c.args.after_dot c.args.text.now c.name_run.result r c.requires in
    subst (λ (z : List ℕ). ComesFirst c.args.after_dot c.args.text.now c.named.result z) (sym c.split_at.ensures.back)
    (subst (λ (z : Token). ComesFirst c.args.after_dot c.args.text.now z (drop c.name_run.result c.args.text.now)) (sym e) s)
