use Rattle.std.proofs.Common.{take, zero-add, refl, sym, ap, ◌∙◌, arith}
use Rattle.std.specs.Char.{is_ascii_digit}
use Rattle.std.specs.List.{list_all}
use Rattle.json_lines.proofs.Sixteens.{pass_on}
use Rattle.json_lines.proofs.runs.digit_run.Goals as goal

pub returns-then-count-lt-STEP-clause-passes : goal.returns-then-count-lt-STEP-clause-passes
returns-then-count-lt-STEP-clause-passes c =
    let count = c.digit_lanes-count in
    let bytes = c.args.bytes.now in
    ap (λ n. list_all is_ascii_digit (take n bytes)) (sym (zero-add count.result)) ∙ pass_on is_ascii_digit bytes 0 count.result refl (omega (arith, c.if-count-lt-STEP.true)) count.ensures
