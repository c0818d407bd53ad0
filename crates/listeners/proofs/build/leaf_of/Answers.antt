use Rattle.std.proofs.Common.{◌≡◌, true, subst}
use Rattle.tree_model.specs.Primitive.{is_primitive}
use Rattle.json_tree.proofs.Limits.{text_length}
use Rattle.listeners.specs.declared.said.SaidBound.{SaidBound}
use Rattle.listeners.specs.Working.Said.{bound_said}
use Rattle.listeners.proofs.build.leaf_of.Goals as goal

pub words-requires : goal.words-requires
words-requires c = text_length c.in-Words.text.now (subst (λ (b : SaidBound). is_primitive (bound_said b) ≡ true) c.in-Words.is c.requires)
