-- The texts of lists.
use Rattle.std.proofs.Common.{◌≡◌, ℕ, Bool, List, ◌++◌, map, ◌∙◌, append_assoc}
use Rattle.serde_json.specs.Data.{Data}
use Rattle.serde_json.specs.Written.{items_text}
use Rattle.answers.specs.AnswerText.{items_of}

-- the items that are left, with the closing bracket
abbrev pub left_items : {X : Type 0} → (X → Data) → Bool → List X → List ℕ
left_items value later xs = items_text later (items_of (map value xs))

pub regrouped : (a b c d : List ℕ) → ((a ++ b) ++ c) ++ d ≡ a ++ (b ++ (c ++ d))
regrouped a b c d = append_assoc (a ++ b) c d ∙ append_assoc a b (c ++ d)
