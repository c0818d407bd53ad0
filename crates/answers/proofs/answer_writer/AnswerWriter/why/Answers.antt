use Rattle.std.proofs.lemmas.Result.{on_ok_weaker}
use Rattle.std.specs.Prelude.{codes}
use Rattle.judge.specs.declared.verdict.Why.TheVariants.{No, Erred}
use Rattle.answers.proofs.Denials.{no_text, erred_text, why_told}
use Rattle.answers.proofs.answer_writer.AnswerWriter.why.Goals as goal

pub returns-in-No-clause-text : goal.returns-in-No-clause-text
returns-in-No-clause-text c =
    on_ok_weaker c.piece.result (why_told c.args.why No c.args.self.now.text c.piece.new.self.text (codes ",\"why\":\"false\"}") c.in-No.is no_text) c.piece.ensures.text

pub returns-in-Erred-clause-text : goal.returns-in-Erred-clause-text
returns-in-Erred-clause-text c =
    on_ok_weaker c.piece-in-Erred.result (why_told c.args.why Erred c.args.self.now.text c.piece-in-Erred.new.self.text (codes ",\"why\":\"error\"}") c.in-Erred.is erred_text) c.piece-in-Erred.ensures.text
