-- Computed from the list of pairs.
use Rattle.std.proofs.Common.{[], ◌∷◌, codes, true}
use Rattle.tree_model.specs.Primitive.{truth}
use Rattle.tree_model.proofs.WorkedValues.{child_keys-listed}
use Rattle.tree_model.proofs.worked.an_array_is_an_object.Goals as goal

pub returns : goal.returns
returns c = child_keys-listed ((codes "0" ∷ [], truth true) ∷ (codes "2" ∷ [], truth true) ∷ (codes "10" ∷ [], truth true) ∷ [])
