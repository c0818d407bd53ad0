use Rattle.std.proofs.Common.{◌≡◌, ◌++◌, arith, sym}
use Rattle.std.specs.Prelude.{Option}
use Rattle.std.proofs.lemmas.Result.{on_ok_weaker}
use Rattle.serde_json.specs.Written.{compact_text}
use Rattle.tree_model.specs.Tree.{Tree}
use Rattle.json_tree.specs.Json.{value_of}
use Rattle.path_capture.specs.Write.{tree_or_null}
use Rattle.answers.proofs.Notices.{now_told}
use Rattle.answers.proofs.answer_writer.AnswerWriter.notice.Goals as goal

pub returns-in_ok-tree-in-Now-clause-text : goal.returns-in_ok-tree-in-Now-clause-text
returns-in_ok-tree-in-Now-clause-text c =
    let tree : Option Tree = c.in-Now.tree in
    let front = c.name.new.self.text in
    let value : c.tree.new.self.text ≡ front ++ compact_text (value_of (tree_or_null tree)) = grind arith in
    on_ok_weaker c.piece.result
    (now_told c.args.self.now.text front c.tree.new.self.text c.piece.new.self.text c.text-in-Now.result.now tree c.args.notice.now (λ i. record { id = c.text-in-Now.ensures.bytes i; what = sym c.in-Now.is i }) c.in_ok-name-in-Now.ensures.text value)
    c.piece.ensures.text
