-- Both stand, and one is a proper prefix of the other.
use Rattle.std.proofs.Common.{[], ◌∷◌, codes, pos, is_some, sym, ap}
use Rattle.std.specs.FinMap as map_of
use Rattle.std.proofs.lemmas.Bool.{false≢true}
use Rattle.tree_model.specs.Primitive.{whole}
use Rattle.tree_model.proofs.Orders.{paths_total}
use Rattle.tree_model.proofs.worked.no_primitive_lies_below_another.Goals as goal

pub returns : goal.returns
returns c = λ tree. false≢true (sym (tree.apart (codes "a" ∷ []) (codes "a" ∷ codes "b" ∷ [])
    (ap is_some (map_of.get-from_entries paths_total ((codes "a" ∷ [], whole (pos 5)) ∷ (codes "a" ∷ codes "b" ∷ [], whole (pos 1)) ∷ []) (codes "a" ∷ [])))
    (ap is_some (map_of.get-from_entries paths_total ((codes "a" ∷ [], whole (pos 5)) ∷ (codes "a" ∷ codes "b" ∷ [], whole (pos 1)) ∷ []) (codes "a" ∷ codes "b" ∷ [])))))
