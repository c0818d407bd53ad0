-- Computed from the lists of pairs.
use Rattle.std.proofs.Common.{[], ◌∷◌, codes, pos, refl}
use Rattle.tree_model.specs.Primitive.{whole}
use Rattle.tree_model.proofs.WorkedValues.{merged-listed}
use Rattle.tree_model.proofs.worked.a_removal_below_a_primitive_changes_nothing.Goals as goal

pub returns : goal.returns
returns c = merged-listed ((codes "a" ∷ [], whole (pos 5)) ∷ []) ((codes "a" ∷ codes "b" ∷ [], []) ∷ []) ((codes "a" ∷ [], whole (pos 5)) ∷ []) refl
