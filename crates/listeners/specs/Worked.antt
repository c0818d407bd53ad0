-- Worked values: small trees and queries written out.
use Rattle.std.specs.Prelude.{List, [], ◌∷◌, map, true, false, codes, pos, negsuc, None, Some}
use Rattle.tree_model.specs.Key.{Key}
use Rattle.tree_model.specs.Primitive.{Primitive, truth, whole, words}
use Rattle.tree_model.specs.Tree.{Tree}
use Rattle.tree_model.specs.Worked.{tree_of_pairs}
use Rattle.listeners.specs.Query.{Order, Query}

-- one primitive below each of these keys
abbrev pub flat : List (Key × Primitive) → Tree
flat cs = tree_of_pairs (map (λ c. (c.0 ∷ [], c.1)) cs)

-- the tree `{"-3":1,"01":2,"1":3,"10":4,"2":5,"2147483648":6,"a":7}`
abbrev pub numbered_keys : Tree
numbered_keys = flat ((codes "-3", whole (pos 1)) ∷ (codes "01", whole (pos 2)) ∷ (codes "1", whole (pos 3)) ∷ (codes "10", whole (pos 4)) ∷ (codes "2", whole (pos 5)) ∷ (codes "2147483648", whole (pos 6)) ∷ (codes "a", whole (pos 7)) ∷ [])

-- the tree `{"a":false,"b":true,"c":-1,"d":"x","e":{"n":1},"f":"A"}`
abbrev pub kinds : Tree
kinds = tree_of_pairs ((codes "a" ∷ [], truth false) ∷ (codes "b" ∷ [], truth true) ∷ (codes "c" ∷ [], whole (negsuc 0)) ∷ (codes "d" ∷ [], words (codes "x")) ∷ (codes "e" ∷ codes "n" ∷ [], whole (pos 1)) ∷ (codes "f" ∷ [], words (codes "A")) ∷ [])

-- the tree `{"b":1,"a":1,"10":1,"9":1}`
abbrev pub ties : Tree
ties = flat ((codes "10", whole (pos 1)) ∷ (codes "9", whole (pos 1)) ∷ (codes "a", whole (pos 1)) ∷ (codes "b", whole (pos 1)) ∷ [])

-- an order alone
abbrev pub by : Order → Query
by order = record { order = Some order; start_at = None; end_at = None; equal_to = None; limit_to_first = None; limit_to_last = None }
