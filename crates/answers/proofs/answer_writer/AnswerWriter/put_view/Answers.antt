use Rattle.std.proofs.Common.{Bor, option_map}
use Rattle.std.proofs.lemmas.Result.{on_ok_weaker}
use Rattle.tree_model.specs.Tree.{Tree}
use Rattle.answers.proofs.Texts.{value_told}
use Rattle.answers.proofs.answer_writer.AnswerWriter.put_view.Goals as goal

pub returns-clause-text : goal.returns-clause-text
returns-clause-text c =
    on_ok_weaker c.piece-2.result
    (value_told c.args.self.now.text c.piece.new.self.text c.view.new.self.text c.piece-2.new.self.text (option_map (λ (view : Bor Tree). view.now) c.args.view) c.in_ok-piece.ensures.text c.in_ok-view.ensures.text)
    c.piece-2.ensures.text
