use Rattle.std.proofs.Common.{◌++◌, ◌∙◌, false, ap}
use Rattle.std.proofs.lemmas.Result.{on_ok_weaker}
use Rattle.answers.specs.AnswerText.{notice_data}
use Rattle.answers.proofs.Items.{left_items}
use Rattle.answers.proofs.Notices.{push_told}
use Rattle.answers.proofs.answer_writer.AnswerWriter.put_push.Goals as goal

pub returns-clause-text : goal.returns-clause-text
returns-clause-text c =
    let told = c.in_ok-notices.ensures.told ∙ ap (λ ns. c.piece.new.self.text ++ left_items notice_data false ns) c.as_slice.ensures in
    on_ok_weaker c.piece-2.result (push_told c.args.news.now c.args.self.now.text c.piece.new.self.text c.notices.new.self.text c.piece-2.new.self.text c.in_ok-piece.ensures.text told) c.piece-2.ensures.text
