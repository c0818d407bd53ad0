use Rattle.std.proofs.Common.{ap, ◌∙◌}
use Rattle.tree_model.specs.Primitive.{is_text}
use Rattle.json_tree.proofs.Limits.{text_length}
use Rattle.json_tree.proofs.leaf.Leaf.copy.Goals as goal

pub words-requires : goal.words-requires
words-requires c = text_length c.as_str.result.now (ap is_text c.as_str.ensures.bytes ∙ c.as_str.ensures.lawful)
