use Rattle.std.proofs.Common.{◌==◌, not, length, get_or, sym, ap, ◌∙◌, arith}
use Rattle.std.proofs.lemmas.Bool.{and_from, eq-eqb}
use Rattle.rules_reader.specs.Plain.{quote, is_escaped}
use Rattle.rules_reader.specs.Working.Front.{closes_string}
use Rattle.rules_reader.proofs.Firsts.{first_found}
use Rattle.rules_reader.proofs.plain_text.string_end.Goals as goal

pub returns-then-not-escaped-clause-first : goal.returns-then-not-escaped-clause-first
returns-then-not-escaped-clause-first c =
    sym (first_found (closes_string c.args.inside.now) (length c.args.inside.now) c.loop-place.place (omega arith) c.loop-place.invariant.none
    (and_from (get_or c.args.inside.now c.loop-place.place 0 == quote) (not (is_escaped c.args.inside.now c.loop-place.place))
    (eq-eqb (get_or c.args.inside.now c.loop-place.place 0) quote c.if-byte-eq34.true)
    (ap not (sym c.loop-place.invariant.escaped ∙ c.if-not-escaped.true))))
