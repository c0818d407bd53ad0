-- The texts of paths.
use Rattle.std.specs.Prelude.{ℕ, ◌++◌, ◌==◌, List, [], ◌∷◌, length, not, codes, filter, flat_map}
use Rattle.std.specs.List.{slice_split}
use Rattle.tree_model.specs.Key.{Key}
use Rattle.tree_model.specs.Path.{Path}

-- the pieces of a text between its slashes
abbrev pub pieces : List ℕ → List (List ℕ)
pieces text = slice_split (λ b. b == 47) text

-- the segments of a text: the pieces that are not empty. (Guide "Structure Your Database"; that empty ones are dropped is this project's profile.)
abbrev pub segments : List ℕ → List Key
segments text = filter (λ piece. not (length piece == 0)) (pieces text)

-- the text of a path: a slash before each key, and for the root a slash alone. (This project's profile.)
abbrev pub printed : Path → List ℕ
printed [] = codes "/"
printed (k ∷ p) = flat_map (λ key. codes "/" ++ key) (k ∷ p)
