use Rattle.std.proofs.Common.{◌++◌, Option, Bor, option_map, unwrap_or, sym, ap, ◌∙◌}
use Rattle.serde_json.specs.Data.{null as empty}
use Rattle.serde_json.specs.Written.{compact_text}
use Rattle.tree_model.specs.Tree.{null}
use Rattle.json_tree.specs.Json.{value_of}
use Rattle.json_tree.specs.declared.node.Node.{Node}
use Rattle.json_tree.proofs.Texts.{text_behind}
use Rattle.json_tree.proofs.Written.{value_of-null}
use Rattle.json_tree.proofs.json_text.write_json.Goals as goal
use Rattle.json_tree.proofs.json_text.write_json.Goals.{in-None+in_ok-null-in-None, in-Some+in_ok-write_node-in-Some}

pub returns : goal.returns
returns c =
    let bytes = c.args.bytes.items in
    let text = c.into_inner.result.items in
    let start = c.new-out.result in
    let before = c.new-out.ensures.before ∙ c.in_ok-with_room.ensures in
    let end = c.match-tree.out in
    let text_of = λ (tree : Option (Bor Node)). bytes ++ compact_text (value_of (unwrap_or (option_map (λ node. node.now) tree) null)) in
    elim c.match-tree.branch [
      | in-None+in_ok-null-in-None w ↦
          let done = w.in_ok-null-in-None.ensures in
          text_behind empty bytes text start end before c.new-out.ensures.tokens (ap (λ o. o.before) w.out-is ∙ done.room.0) (ap (λ o. o.tokens) w.out-is ∙ done.ok) c.into_inner.ensures.items
          ∙ ap (λ d. bytes ++ compact_text d) (sym value_of-null) ∙ ap text_of (sym w.in-None.is)
      | in-Some+in_ok-write_node-in-Some w ↦
          let done = w.in_ok-write_node-in-Some.ensures in
          text_behind (value_of w.in-Some.node.now) bytes text start end before c.new-out.ensures.tokens (ap (λ o. o.before) w.out-is ∙ done.before) (ap (λ o. o.tokens) w.out-is ∙ done.tokens) c.into_inner.ensures.items
          ∙ ap text_of (sym w.in-Some.is)
    ]
