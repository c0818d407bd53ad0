use Rattle.std.proofs.Common.{ap, ◌∙◌}
use Rattle.tree_model.specs.Primitive.{is_text}
use Rattle.json_tree.proofs.Limits.{is_text_from}
use Rattle.json_tree.proofs.leaf.LeafText.new.Goals as goal

pub invariant_of-result : goal.invariant_of-result
invariant_of-result c = ap is_text c.in_ok-held.ensures ∙ is_text_from c.args.text.now c.utf8.text c.requires
