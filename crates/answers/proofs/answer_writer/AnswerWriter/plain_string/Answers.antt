use Rattle.std.proofs.Common.{◌++◌, ap, ◌∙◌}
use Rattle.std.proofs.lemmas.Result.{on_ok_weaker}
use Rattle.answers.proofs.Escaping.{quoted_put}
use Rattle.answers.proofs.answer_writer.AnswerWriter.plain_string.Goals as goal

pub returns-clause-text : goal.returns-clause-text
returns-clause-text c =
    let opened = c.piece.new.self.text in
    let said = c.in_ok-piece-2.ensures.text ∙ ap (λ t. opened ++ t) c.as_bytes.ensures.value in
    on_ok_weaker c.piece-3.result (quoted_put c.args.self.now.text opened c.piece-2.new.self.text c.piece-3.new.self.text c.args.text.now c.requires c.in_ok-piece.ensures.text said) c.piece-3.ensures.text
