use Rattle.std.proofs.Common.{◌++◌, ◌∙◌, false, ap}
use Rattle.std.proofs.lemmas.Result.{on_ok_weaker}
use Rattle.json.specs.Print.{quoted}
use Rattle.answers.specs.AnswerText.{text, named_data}
use Rattle.answers.proofs.Denials.{before_place, write_told}
use Rattle.answers.proofs.Items.{left_items}
use Rattle.answers.proofs.answer_writer.AnswerWriter.put_write_denied.Goals as goal

pub returns-clause-text : goal.returns-clause-text
unfolding text
returns-clause-text c =
    let place = c.in_ok-at.ensures.text ∙ ap (λ s. c.args.self.now.text ++ (before_place ++ quoted s)) (c.as_str.ensures.value ∙ c.in_ok-place.ensures) in
    let told = c.in_ok-borrowed_rules.ensures.told ∙ ap (λ ns. c.piece.new.self.text ++ left_items named_data false ns) c.as_slice.ensures in
    on_ok_weaker c.piece-2.result
    (write_told c.args.at.now c.args.names.now c.args.self.now.text c.at.new.self.text c.piece.new.self.text c.borrowed_rules.new.self.text c.piece-2.new.self.text place c.in_ok-piece.ensures.text told)
    c.piece-2.ensures.text
