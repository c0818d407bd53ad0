use Rattle.std.proofs.Common.{◌≡◌, ◌++◌, false, drop, map, nat_lt}
use Rattle.rtdb_model.specs.Tidings.{notice_of}
use Rattle.answers.specs.AnswerText.{notice_data}
use Rattle.answers.proofs.Items.{left_items}
use Rattle.answers.proofs.answer_writer.AnswerWriter.tidings.Given as goal

-- what is written, and what is left, are all
abbrev pub invariant-loop-index : goal.invariant-loop-index
invariant-loop-index l =
    (l.self.before ≡ l.fn.self.before)
    × (l.self.text ++ left_items notice_data (nat_lt 0 l.index) (map notice_of (drop l.index l.tidings)) ≡ l.fn.self.text ++ left_items notice_data false (map notice_of l.tidings))
