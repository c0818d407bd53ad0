use Rattle.std.proofs.Common.{◌≡◌, length, arith, rules, ap, sym}
use Rattle.std.specs.Str.{chars}
use Rattle.std.proofs.lemmas.Str.{chars_from_encodes, encodes-chars, length-le-encodes, chars-IsAscii}
use Rattle.evaluator.proofs.texts.scalars.Goals as goal

pub returns-then-is_ascii-clause-count : goal.returns-then-is_ascii-clause-count
returns-then-is_ascii-clause-count c = ap length (sym (chars-IsAscii c.args.text.now c.if-is_ascii.ensures.cases))

pub returns-clause-count : goal.returns-clause-count
returns-clause-count c = search (rules, chars_from_encodes)

pub returns-clause-small : goal.returns-clause-small
returns-clause-small c =
    let count : c.count.result ≡ length (chars c.args.text.now) = search (rules, chars_from_encodes) in
    omega (arith, count, length-le-encodes (chars c.args.text.now), ap length (encodes-chars c.args.text.now c.utf8.text))
