use Rattle.std.proofs.Common.{◌++◌, ◌∙◌, Bor, option_map, ap}
use Rattle.serde_json.specs.Written.{compact_text}
use Rattle.tree_model.specs.Tree.{Tree}
use Rattle.json_tree.specs.Json.{value_of}
use Rattle.path_capture.specs.Write.{tree_or_null}
use Rattle.answers.proofs.Texts.{tree_is}
use Rattle.answers.proofs.Behind.{text_put}
use Rattle.answers.proofs.answer_writer.AnswerWriter.tree.Goals as goal

pub returns-clause-text : goal.returns-clause-text
returns-clause-text c =
    let tree = option_map (λ (node : Bor Tree). node.now) c.args.tree in
    let room = c.lend_room.result.items in
    let written = c.in_ok-text.ensures ∙ ap (λ t. room ++ compact_text (value_of t)) (tree_is tree) in
    text_put c.args.self.now c.lend_room.new.self c.put_written.new.self room c.in_ok-text.text.items (compact_text (value_of (tree_or_null tree))) c.lend_room.ensures.same c.lend_room.ensures.none written c.in_ok-put_written.ensures.text
