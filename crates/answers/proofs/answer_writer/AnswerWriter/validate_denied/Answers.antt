use Rattle.std.proofs.Common.{◌++◌, ◌∙◌, ap}
use Rattle.std.proofs.lemmas.Result.{on_ok_weaker}
use Rattle.json.specs.Print.{quoted}
use Rattle.answers.proofs.Denials.{before_place, validate_told}
use Rattle.answers.proofs.answer_writer.AnswerWriter.validate_denied.Goals as goal

pub returns-clause-text : goal.returns-clause-text
returns-clause-text c =
    let place = c.in_ok-at.ensures.text ∙ ap (λ s. c.args.self.now.text ++ (before_place ++ quoted s)) (c.as_str.ensures.value ∙ c.in_ok-place.ensures) in
    let said = c.in_ok-string.ensures.text ∙ ap (λ s. c.piece.new.self.text ++ quoted s) (c.as_str-2.ensures.value ∙ c.in_ok-pattern.ensures) in
    on_ok_weaker c.why.result
    (validate_told c.args.at.now c.args.pattern.now c.args.why c.args.self.now.text c.at.new.self.text c.piece.new.self.text c.string.new.self.text c.why.new.self.text place c.in_ok-piece.ensures.text said)
    c.why.ensures.text
