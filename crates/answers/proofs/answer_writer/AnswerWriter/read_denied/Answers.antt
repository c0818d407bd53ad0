use Rattle.std.proofs.lemmas.Result.{on_ok_weaker}
use Rattle.answers.proofs.Denials.{read_told}
use Rattle.answers.proofs.answer_writer.AnswerWriter.read_denied.Goals as goal

pub returns-clause-text : goal.returns-clause-text
returns-clause-text c =
    on_ok_weaker c.piece-2.result
    (read_told c.args.named.now c.args.self.now.text c.piece.new.self.text c.rules.new.self.text c.piece-2.new.self.text c.in_ok-piece.ensures.text c.in_ok-rules.ensures.told)
    c.piece-2.ensures.text
