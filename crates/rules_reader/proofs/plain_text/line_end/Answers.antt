use Rattle.std.proofs.Common.{◌≡◌, true, length, get_or, sym, ap, arith}
use Rattle.rules_reader.specs.Plain.{ends_line}
use Rattle.rules_reader.specs.Working.Front.{closes_line}
use Rattle.rules_reader.proofs.Firsts.{first_found}
use Rattle.rules_reader.proofs.plain_text.line_end.Goals as goal
use Rattle.rules_reader.proofs.plain_text.line_end.Goals.{then-byte-eq10-via-then-byte-eq10, then-byte-eq10-via-else-byte-eq10+then-byte-eq13}

pub returns-then-byte-eq10-clause-first : goal.returns-then-byte-eq10-clause-first
returns-then-byte-eq10-clause-first c =
    let ends : ends_line (get_or c.args.words.now c.loop-place.place 0) ≡ true = elim c.then-byte-eq10.branch [
      | then-byte-eq10-via-then-byte-eq10 w ↦ ap ends_line w.if-byte-eq10.true
      | then-byte-eq10-via-else-byte-eq10+then-byte-eq13 w ↦ ap ends_line w.if-byte-eq13.true
    ] in
    sym (first_found (closes_line c.args.words.now) (length c.args.words.now) c.loop-place.place (omega arith) c.loop-place.invariant ends)
