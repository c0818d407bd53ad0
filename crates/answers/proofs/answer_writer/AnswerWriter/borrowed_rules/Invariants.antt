use Rattle.std.proofs.Common.{◌≡◌, ◌++◌, false, drop, nat_lt}
use Rattle.answers.specs.AnswerText.{named_data}
use Rattle.answers.proofs.Items.{left_items}
use Rattle.answers.proofs.answer_writer.AnswerWriter.borrowed_rules.Given as goal

-- what is written, and what is left, are all
abbrev pub invariant-loop-place : goal.invariant-loop-place
invariant-loop-place l =
    (l.self.before ≡ l.fn.self.before)
    × (l.self.text ++ left_items named_data (nat_lt 0 l.place) (drop l.place l.names) ≡ l.fn.self.text ++ left_items named_data false l.names)
