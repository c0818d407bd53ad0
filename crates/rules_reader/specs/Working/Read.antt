-- What is read below the keys and captures of an object.
use Rattle.std.specs.Prelude.{◌≡◌, ◌++◌, ℕ, List, [], ◌∷◌, flat_map, length, ⊤}
use Rattle.std.specs.List.{sum_by}
use Rattle.std.specs.FinMap as map_of
use Rattle.rules_reader.specs.Part.{PartText, Pattern}
use Rattle.rules_reader.specs.Book.{BookOf, TextBook, Book, RuleOf, own_rules, rules}
use Rattle.rules_reader.specs.Spelled.{IsSpelled}
use Rattle.tree_model.specs.PathMap.{under}

-- the parts of the texts and of the rules are the same, and the texts of each spell its rules
abbrev pub SpellsParts : Pattern → List (PartText × TextBook) → List (PartText × Book) → Type 0
SpellsParts at [] [] = ⊤
SpellsParts at [] (c ∷ cs) = ⊥
SpellsParts at (t ∷ ts) [] = ⊥
SpellsParts at (t ∷ ts) (c ∷ cs) = (t.0 ≡ c.0) × IsSpelled (at ++ t.0 ∷ []) t.1 c.1 × SpellsParts at ts cs

-- the texts of rules below the parts of an object, part after part
abbrev pub rules_below : List (PartText × TextBook) → List (RuleOf (List ℕ))
rules_below parts = flat_map own_rules (flat_map (λ c. under c.0 (map_of.entries c.1)) parts)

-- how many rules are below the parts of an object
abbrev pub rule_count : {A : Type 0} → List (PartText × BookOf A) → ℕ
rule_count parts = sum_by (λ c. length (rules c.1)) parts
