use Rattle.std.proofs.lemmas.Result.{on_ok_weaker}
use Rattle.answers.proofs.Denials.{rule_told}
use Rattle.answers.proofs.answer_writer.AnswerWriter.rule.Goals as goal

pub returns-clause-text : goal.returns-clause-text
returns-clause-text c =
    on_ok_weaker c.why.result
    (rule_told c.args.pattern.now c.args.why c.args.self.now.text c.piece.new.self.text c.string.new.self.text c.why.new.self.text c.in_ok-piece.ensures.text c.in_ok-string.ensures.text)
    c.why.ensures.text
