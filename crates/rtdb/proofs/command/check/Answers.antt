use Rattle.std.proofs.Common.{◌<◌, List, ℕ, length, inr, sym, subst}
use Rattle.rules_reader.specs.declared.limits.TheConstants.{MAX_FILE_BYTES}
use Rattle.rtdb.specs.Command.{IsChecked}
use Rattle.scripts.proofs.Sending.{Appends-refl}
use Rattle.rtdb.proofs.Prefixes.{has_checked}
use Rattle.rtdb.proofs.command.check.Goals as goal

pub returns-in-Ok-answer-clause-checked : goal.returns-in-Ok-answer-clause-checked
returns-in-Ok-answer-clause-checked g c =
    let same = c.deref.ensures.value in
    has_checked c.in-Ok.bytes.items c.in-Ok-answer.answer.line.items c.in-Ok-answer.answer.status
    (subst (λ (b : List ℕ). IsChecked b c.in-Ok-answer.answer.line.items c.in-Ok-answer.answer.status) same c.in-Ok-answer.ensures.checked)
    (λ long. c.in-Ok-answer.ensures.too_long (subst (λ (b : List ℕ). MAX_FILE_BYTES < length b) (sym same) long))
    _ _ _ _ _ c.in-Ok.ensures.known c.print.ensures.printed

pub returns-in-Ok-clause-checked : goal.returns-in-Ok-clause-checked
returns-in-Ok-clause-checked g c = inr (inr (inr (c.out_of_memory.ensures, Appends-refl _)))
