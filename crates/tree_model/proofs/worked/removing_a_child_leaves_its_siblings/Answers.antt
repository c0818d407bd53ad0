-- Computed from the lists of pairs.
use Rattle.std.proofs.Common.{[], ◌∷◌, codes, pos, refl}
use Rattle.tree_model.specs.Primitive.{whole, words}
use Rattle.tree_model.proofs.WorkedValues.{merged-listed}
use Rattle.tree_model.proofs.worked.removing_a_child_leaves_its_siblings.Goals as goal

pub returns : goal.returns
returns c = merged-listed ((codes "w" ∷ codes "1" ∷ codes "color" ∷ [], words (codes "red")) ∷ (codes "w" ∷ codes "1" ∷ codes "size" ∷ [], whole (pos 3)) ∷ []) ((codes "w" ∷ codes "1" ∷ codes "size" ∷ [], []) ∷ []) ((codes "w" ∷ codes "1" ∷ codes "color" ∷ [], words (codes "red")) ∷ []) refl
