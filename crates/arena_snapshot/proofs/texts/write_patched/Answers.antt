use Rattle.json_tree.specs.Json.{value_of}
use Rattle.json_tree.proofs.Texts.{text_behind}
use Rattle.arena_snapshot.proofs.texts.write_patched.Goals as goal

pub returns : goal.returns
returns c =
    text_behind (value_of c.args.view.now) c.args.bytes.items c.into_inner.result.items c.new-out.result c.write_tree.new.out c.new-out.ensures.before c.new-out.ensures.tokens c.in_ok-write_tree.ensures.before c.in_ok-write_tree.ensures.tokens c.into_inner.ensures.items
