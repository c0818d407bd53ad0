-- The lines of an input. (This project's profile.)
use Rattle.std.specs.Prelude.{ℕ, Bool, true, not, ◌&&◌, ◌||◌, ◌==◌, List, [], ◌∷◌, filter}
use Rattle.std.specs.List.{slice_split}

-- only spaces, tabs and carriage returns
abbrev pub is_blank : List ℕ → Bool
is_blank [] = true
is_blank (b ∷ bs) = (b == 32 || b == 9 || b == 13) && is_blank bs

-- What stands between the line feeds. After a line feed at the very end that is an empty line, which is blank.
abbrev pub cut : List ℕ → List (List ℕ)
cut input = slice_split (λ b. b == 10) input

-- the lines that are not blank
abbrev pub non_blank : List (List ℕ) → List (List ℕ)
non_blank lines = filter (λ line. not (is_blank line)) lines
