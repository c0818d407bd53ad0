use Rattle.std.proofs.Common.{◌≡◌, ◌++◌, arith, sym}
use Rattle.std.specs.Prelude.{Option}
use Rattle.std.proofs.lemmas.Result.{on_ok_weaker}
use Rattle.serde_json.specs.Written.{compact_text}
use Rattle.tree_model.specs.Tree.{Tree}
use Rattle.json_tree.specs.Json.{value_of}
use Rattle.path_capture.specs.Write.{tree_or_null}
use Rattle.rtdb_model.specs.Tidings.{what_of, notice_of}
use Rattle.answers.proofs.Notices.{now_told}
use Rattle.answers.proofs.answer_writer.AnswerWriter.tiding.Goals as goal

pub returns-in_ok-view-in-Now-clause-text : goal.returns-in_ok-view-in-Now-clause-text
returns-in_ok-view-in-Now-clause-text c =
    let tree : Option Tree = c.in-Now.view in
    let front = c.name.new.self.text in
    let value : c.view.new.self.text ≡ front ++ compact_text (value_of (tree_or_null tree)) = grind arith in
    on_ok_weaker c.piece.result
    (now_told c.args.self.now.text front c.view.new.self.text c.piece.new.self.text c.text-in-Now.result.now tree (notice_of c.args.tiding.now) (λ i. record { id = c.text-in-Now.ensures.bytes i; what = what_of (sym c.in-Now.is i) }) c.in_ok-name-in-Now.ensures.text value)
    c.piece.ensures.text
