use Rattle.std.proofs.Common.{sym, ap, ◌∙◌, arith}
use Rattle.std.specs.List.{list_all}
use Rattle.std.proofs.lemmas.List.{take_all}
use Rattle.rules_reader.proofs.Unchanged.{stays, all_stays}
use Rattle.rules_reader.proofs.plain_text.is_plain.Goals as goal

pub returns : goal.returns
returns c h =
    let whole = take_all c.loop-byte.byte-index c.args.file.now (omega arith) in
    all_stays c.args.file.now (ap (list_all stays) (sym whole) ∙ sym c.loop-byte.invariant ∙ h)
