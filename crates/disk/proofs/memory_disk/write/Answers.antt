use Rattle.std.proofs.Common.{◌≤◌, length, arith, sym, subst, ap, ◌∙◌}
use Rattle.disk.specs.Disk.{Torn, overwritten}
use Rattle.disk.proofs.Outcomes.{replaced_crash, replaced_kept}
use Rattle.disk.proofs.Tearing.{untouched, written}
use Rattle.disk.proofs.memory_disk.write.Goals as goal

pub returns-then-at-len-clause-crash : goal.returns-then-at-len-clause-crash
returns-then-at-len-clause-crash c = λ after out. (after, out, untouched c.args.at (length c.args.bytes.now) after)

pub returns-in_default-clause-crash : goal.returns-in_default-clause-crash
returns-in_default-clause-crash c = λ after out. (after, out, untouched c.args.at (length c.args.bytes.now) after)

pub returns-clause-crash : goal.returns-clause-crash
returns-clause-crash c =
    let step = Torn c.args.at (length c.args.bytes.now) in
    let within : c.args.at ≤ length c.args.file.now.items = omega arith in
    let whole = subst (λ l. step c.args.file.now.items l) (sym (c.in-Ok.ensures ∙ ap (λ file. overwritten c.args.at c.args.bytes.now file) c.deref.ensures.value)) (written c.args.at c.args.bytes.now c.args.file.now.items within) in
    replaced_crash c.args.file.now.items c.replace.new.file.items c.in-Ok.next.items c.args.others.now.items c.replace.new.others.items step (untouched c.args.at (length c.args.bytes.now)) whole c.replace.result c.replace.ensures.done c.replace.ensures.undone

pub returns-clause-kept : goal.returns-clause-kept
returns-clause-kept c = replaced_kept c.args.file.now.items c.replace.new.file.items c.in-Ok.next.items c.args.others.now.items c.replace.new.others.items c.replace.result c.replace.ensures.done c.replace.ensures.undone
