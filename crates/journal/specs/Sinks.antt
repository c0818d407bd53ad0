-- What becomes of the entries that are handed to a sink.
use Rattle.std.specs.Prelude.{ℕ, List, ◌++◌}

-- whatever entries the old sink had, the new one has these more
abbrev pub HandsOn : {S : Type 0} → (S → List (List ℕ) → Type 0) → (S → List (List ℕ) → Type 0) → S → S → List (List ℕ) → Type 0
HandsOn had has old new entries = (before : List (List ℕ)) → had old before → has new (before ++ entries)
