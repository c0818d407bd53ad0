use Rattle.std.proofs.Common.{◌++◌, ap, ◌∙◌}
use Rattle.std.proofs.lemmas.Result.{on_ok_weaker}
use Rattle.answers.proofs.Texts.{applied_text}
use Rattle.answers.proofs.answer_writer.AnswerWriter.put_applied.Goals as goal

pub returns-clause-text : goal.returns-clause-text
returns-clause-text c = on_ok_weaker c.piece.result (λ is. is ∙ ap (λ s. c.args.self.now.text ++ s) applied_text) c.piece.ensures.text
