use Rattle.std.proofs.Common.{◌≡◌, ◌++◌, false, drop, nat_lt}
use Rattle.answers.specs.AnswerText.{notice_data}
use Rattle.answers.proofs.Items.{left_items}
use Rattle.answers.proofs.answer_writer.AnswerWriter.notices.Given as goal

-- what is written, and what is left, are all
abbrev pub invariant-loop-index : goal.invariant-loop-index
invariant-loop-index l =
    (l.self.before ≡ l.fn.self.before)
    × (l.self.text ++ left_items notice_data (nat_lt 0 l.index) (drop l.index l.notices) ≡ l.fn.self.text ++ left_items notice_data false l.notices)
