-- Computed from the lists of pairs.
use Rattle.std.proofs.Common.{[], ◌∷◌, codes, pos, refl}
use Rattle.tree_model.specs.Primitive.{whole}
use Rattle.tree_model.proofs.WorkedValues.{merged-listed}
use Rattle.tree_model.proofs.worked.a_write_replaces_what_is_at_its_location.Goals as goal

pub returns : goal.returns
returns c = merged-listed ((codes "a" ∷ codes "b" ∷ [], whole (pos 1)) ∷ (codes "a" ∷ codes "c" ∷ [], whole (pos 2)) ∷ (codes "d" ∷ [], whole (pos 3)) ∷ []) ((codes "a" ∷ [], ([], whole (pos 5)) ∷ []) ∷ []) ((codes "a" ∷ [], whole (pos 5)) ∷ (codes "d" ∷ [], whole (pos 3)) ∷ []) refl
