-- Computed from the lists of pairs.
use Rattle.std.proofs.Common.{[], ◌∷◌, codes, pos, refl}
use Rattle.tree_model.specs.Primitive.{whole}
use Rattle.tree_model.proofs.WorkedValues.{merged-listed}
use Rattle.tree_model.proofs.worked.what_is_empty_is_not_stored.Goals as goal

pub returns : goal.returns
returns c = merged-listed ((codes "a" ∷ codes "b" ∷ [], whole (pos 1)) ∷ []) ((codes "a" ∷ [], []) ∷ []) ([]) refl
