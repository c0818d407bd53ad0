use Rattle.std.proofs.Common.{ap, ◌∙◌, refl, arith}
use Rattle.tree_model.specs.Path.{is_path}
use Rattle.tree_model.proofs.Lawful.{is_path_from}
use Rattle.path_capture.proofs.path.Path.root.Goals as goal

pub invariant_of-result : goal.invariant_of-result
invariant_of-result c = ap is_path c.new.ensures.items ∙ is_path_from _ refl (omega arith)
