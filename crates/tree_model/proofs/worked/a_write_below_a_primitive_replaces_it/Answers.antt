-- Computed from the lists of pairs.
use Rattle.std.proofs.Common.{[], ◌∷◌, codes, true, pos, refl}
use Rattle.tree_model.specs.Primitive.{truth, whole}
use Rattle.tree_model.proofs.WorkedValues.{merged-listed}
use Rattle.tree_model.proofs.worked.a_write_below_a_primitive_replaces_it.Goals as goal

pub returns : goal.returns
returns c = merged-listed ((codes "a" ∷ [], whole (pos 5)) ∷ []) ((codes "a" ∷ codes "b" ∷ [], ([], truth true) ∷ []) ∷ []) ((codes "a" ∷ codes "b" ∷ [], truth true) ∷ []) refl
