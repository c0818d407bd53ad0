-- Computed from the lists of pairs.
use Rattle.std.proofs.Common.{[], ◌∷◌, codes, pos, refl}
use Rattle.tree_model.specs.Primitive.{whole}
use Rattle.tree_model.proofs.WorkedValues.{merged-listed}
use Rattle.tree_model.proofs.worked.an_update_is_made_in_whole.Goals as goal

pub returns : goal.returns
returns c = merged-listed ([]) ((codes "a" ∷ codes "n" ∷ [], ([], whole (pos 1)) ∷ []) ∷ (codes "b" ∷ codes "n" ∷ [], ([], whole (pos 1)) ∷ []) ∷ []) ((codes "a" ∷ codes "n" ∷ [], whole (pos 1)) ∷ (codes "b" ∷ codes "n" ∷ [], whole (pos 1)) ∷ []) refl
