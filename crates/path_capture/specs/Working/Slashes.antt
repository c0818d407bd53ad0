-- Where a piece of a path's text ends, and what follows.
use Rattle.std.specs.Prelude.{◌≡◌, ◌⊎◌, ◌==◌, ℕ, List, [], ◌∷◌, Bool, true}

-- nothing comes, or a slash
abbrev pub ends_piece : List ℕ → Bool
ends_piece [] = true
ends_piece (b ∷ rest) = b == 47

-- the slash that comes first, and behind it these bytes; or nothing, where nothing comes
abbrev pub IsPastSlash : List ℕ → List ℕ → Type 0
IsPastSlash text rest = ((text ≡ []) × (rest ≡ [])) ⊎ (text ≡ 47 ∷ rest)
