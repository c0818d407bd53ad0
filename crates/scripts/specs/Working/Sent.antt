-- What becomes of a text on its way to a sink.
use Rattle.std.specs.Prelude.{◌≡◌, ℕ, Bool, List, ◌++◌, Option}
use Rattle.std.specs.Io.KnownBytes.{Appends}

-- what a sink reports of a call: what was written before it and after it, where that is known, and whether it has failed
pub record SinkTells : Type 0 where
  pub before : Option (List ℕ)
  pub after : Option (List ℕ)
  pub failed : Bool

-- the report with these parts
abbrev pub tells : Option (List ℕ) → Option (List ℕ) → Bool → SinkTells
tells before after failed = record { before = before; after = after; failed = failed }

-- a front of the text is written, and all that comes after it is kept
abbrev pub Passes : Option (List ℕ) → Option (List ℕ) → List ℕ → List ℕ → Type 0
Passes old new text kept = (sent : List ℕ) × Appends old new sent × (text ≡ sent ++ kept)

-- a front of the text is written, and all that comes after it is lost
abbrev pub Breaks : Option (List ℕ) → Option (List ℕ) → List ℕ → Type 0
Breaks old new text = (sent lost : List ℕ) × Appends old new sent × (text ≡ sent ++ lost)
