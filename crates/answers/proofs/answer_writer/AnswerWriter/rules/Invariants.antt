use Rattle.std.proofs.Common.{◌≡◌, ◌++◌, false, drop, nat_lt}
use Rattle.answers.specs.AnswerText.{named_data}
use Rattle.answers.proofs.Items.{left_items}
use Rattle.answers.proofs.answer_writer.AnswerWriter.rules.Given as goal

-- what is written, and what is left, are all
abbrev pub invariant-loop-index : goal.invariant-loop-index
invariant-loop-index l =
    (l.self.before ≡ l.fn.self.before)
    × (l.self.text ++ left_items named_data (nat_lt 0 l.index) (drop l.index l.named) ≡ l.fn.self.text ++ left_items named_data false l.named)
