use Rattle.std.proofs.lemmas.Result.{on_ok_weaker}
use Rattle.rtdb_model.specs.Borrowed.{refusal_of}
use Rattle.answers.proofs.Texts.{skipped_told}
use Rattle.answers.proofs.answer_writer.AnswerWriter.put_borrowed_skipped.Goals as goal

pub returns-clause-text : goal.returns-clause-text
returns-clause-text c =
    on_ok_weaker c.piece-2.result
    (skipped_told c.args.self.now.text c.piece.new.self.text c.put_borrowed_refusal.new.self.text c.piece-2.new.self.text (refusal_of c.args.refusal.now) c.in_ok-piece.ensures.text c.in_ok-put_borrowed_refusal.ensures.text)
    c.piece-2.ensures.text
