-- Computed from the list of pairs.
use Rattle.std.proofs.Common.{[], ◌∷◌, codes, pos}
use Rattle.tree_model.specs.Primitive.{whole}
use Rattle.tree_model.proofs.WorkedValues.{exists-listed, count-listed}
use Rattle.tree_model.proofs.worked.a_location_exists_at_or_above_a_primitive.Goals as goal

pub returns-clause-root : goal.returns-clause-root
returns-clause-root c = exists-listed ((codes "a" ∷ codes "b" ∷ [], whole (pos 1)) ∷ []) []

pub returns-clause-above : goal.returns-clause-above
returns-clause-above c = exists-listed ((codes "a" ∷ codes "b" ∷ [], whole (pos 1)) ∷ []) (codes "a" ∷ [])

pub returns-clause-at : goal.returns-clause-at
returns-clause-at c = exists-listed ((codes "a" ∷ codes "b" ∷ [], whole (pos 1)) ∷ []) (codes "a" ∷ codes "b" ∷ [])

pub returns-clause-nowhere_else : goal.returns-clause-nowhere_else
returns-clause-nowhere_else c = exists-listed ((codes "a" ∷ codes "b" ∷ [], whole (pos 1)) ∷ []) (codes "a" ∷ codes "c" ∷ [])

pub returns-clause-counted : goal.returns-clause-counted
returns-clause-counted c = count-listed ((codes "a" ∷ codes "b" ∷ [], whole (pos 1)) ∷ [])
