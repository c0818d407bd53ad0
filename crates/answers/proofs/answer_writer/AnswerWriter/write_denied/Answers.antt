use Rattle.std.proofs.Common.{◌++◌, ◌∙◌, ap}
use Rattle.std.proofs.lemmas.Result.{on_ok_weaker}
use Rattle.json.specs.Print.{quoted}
use Rattle.answers.proofs.Denials.{before_place, write_told}
use Rattle.answers.proofs.answer_writer.AnswerWriter.write_denied.Goals as goal

pub returns-clause-text : goal.returns-clause-text
returns-clause-text c =
    let place = c.in_ok-at.ensures.text ∙ ap (λ s. c.args.self.now.text ++ (before_place ++ quoted s)) (c.as_str.ensures.value ∙ c.in_ok-place.ensures) in
    on_ok_weaker c.piece-2.result
    (write_told c.args.at.now c.args.named.now c.args.self.now.text c.at.new.self.text c.piece.new.self.text c.rules.new.self.text c.piece-2.new.self.text place c.in_ok-piece.ensures.text c.in_ok-rules.ensures.told)
    c.piece-2.ensures.text
