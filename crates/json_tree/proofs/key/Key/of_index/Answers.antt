use Rattle.std.proofs.Common.{ap, ◌∙◌, arith}
use Rattle.tree_model.specs.Key.{is_key}
use Rattle.json_tree.proofs.Limits.{is_key-decimal}
use Rattle.json_tree.proofs.key.Key.of_index.Goals as goal

pub invariant_of-result : goal.invariant_of-result
invariant_of-result c = ap is_key c.in_ok-to_string.ensures.ok ∙ is_key-decimal c.args.index (omega arith)
