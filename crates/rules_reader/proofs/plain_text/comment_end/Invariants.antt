use Rattle.std.proofs.Common.{◌≡◌, None}
use Rattle.rules_reader.specs.Working.Front.{first, closes_comment}
use Rattle.rules_reader.proofs.plain_text.comment_end.Given as goal

abbrev pub invariant-loop-place : goal.invariant-loop-place
invariant-loop-place l = first (closes_comment l.words) l.place ≡ None
