use Rattle.std.proofs.Common.{◌≡◌, None}
use Rattle.rules_reader.specs.Plain.{is_escaped}
use Rattle.rules_reader.specs.Working.Front.{first, closes_string}
use Rattle.rules_reader.proofs.plain_text.string_end.Given as goal

abbrev pub invariant-loop-place : goal.invariant-loop-place
invariant-loop-place l = record { escaped : l.escaped ≡ is_escaped l.inside l.place; none : first (closes_string l.inside) l.place ≡ None }
