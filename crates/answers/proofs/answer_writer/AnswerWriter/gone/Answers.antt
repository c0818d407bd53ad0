use Rattle.std.proofs.lemmas.Result.{on_ok_weaker}
use Rattle.answers.proofs.Notices.{gone_told}
use Rattle.answers.proofs.answer_writer.AnswerWriter.gone.Goals as goal

pub returns-clause-text : goal.returns-clause-text
returns-clause-text c =
    on_ok_weaker c.piece-2.result
    (gone_told c.args.self.now.text c.piece.new.self.text c.string.new.self.text c.piece-2.new.self.text c.args.id.now c.in_ok-piece.ensures.text c.in_ok-string.ensures.text)
    c.piece-2.ensures.text
