use Rattle.std.proofs.Common.{◌∙◌, subst, List, ℕ}
use Rattle.expr_tokens.specs.Words.{is_blank}
use Rattle.expr_tokens.specs.Working.Scanning.{IsRun}
use Rattle.expr_tokens.proofs.Runs.{run_boundary, past_run, blank_ascii}
use Rattle.expr_tokens.proofs.front.past_blanks.Goals as goal

pub split_at-requires : goal.split_at-requires
split_at-requires c =
    let r = subst (λ (bytes : List ℕ). IsRun is_blank bytes c.blank_run.result) c.as_bytes.ensures.value c.blank_run.ensures in
    run_boundary is_blank blank_ascii c.args.text.now c.blank_run.result r c.utf8.text

pub returns : goal.returns
returns c =
    let r = subst (λ (bytes : List ℕ). IsRun is_blank bytes c.blank_run.result) c.as_bytes.ensures.value c.blank_run.ensures in
    c.split_at.ensures.back ∙ past_run c.args.text.now c.blank_run.result r
