use Rattle.std.proofs.Common.{◌≡◌, None}
use Rattle.rules_reader.specs.Working.Front.{first, closes_line}
use Rattle.rules_reader.proofs.plain_text.line_end.Given as goal

abbrev pub invariant-loop-place : goal.invariant-loop-place
invariant-loop-place l = first (closes_line l.words) l.place ≡ None
