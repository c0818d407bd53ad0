-- A pattern: a path in which captures stand for keys.
use Rattle.std.specs.Prelude.{◌≡◌, ℕ, ◌++◌, ◌==◌, List, [], ◌∷◌, map, codes, refl, if◌then◌else◌}
use Rattle.std.specs.Coded.{Coded, code_by, coded⊎, coded_ℕ, coded_list}
use Rattle.std.specs.declared.cmp.Ordering.{Ordering}
use Rattle.std.proofs.Common.{inl, inr, ◌⊎◌}
use Rattle.tree_model.specs.Key.{Key}
use Rattle.tree_model.specs.Path.{path_cmp}
use Rattle.path_capture.specs.Path.{printed}
use Rattle.path_capture.specs.declared.pattern.Part.{Part}
use Rattle.path_capture.specs.declared.pattern.Part.TheVariants.{Literal, Capture}

-- a key, or the name of a capture, which stands for any one key. (Reference, core syntax: $ captures.)
pub data PatternPart : Type 0 where
  literal : Key → PatternPart
  capture : List ℕ → PatternPart

-- the parts of a pattern, from the root on. (Reference, `$location` variables.)
abbrev pub Pattern : Type 0
Pattern = List PatternPart

-- what a part of the code is
abbrev pub part_of : Part → PatternPart
part_of (Literal key) = literal key
part_of (Capture name) = capture name

-- the text of a part: a key as it is, and a capture's name after a $
abbrev pub part_text : PatternPart → List ℕ
part_text (literal key) = key
part_text (capture name) = codes "$" ++ name

-- what a text names: after a $ a capture, else a key
abbrev pub part_of_text : List ℕ → PatternPart
part_of_text [] = literal []
part_of_text (sign ∷ rest) = if sign == 36 then capture rest else literal (sign ∷ rest)

-- the order of patterns: by the list of the texts of their parts, each by its bytes, a prefix first. (This project's profile.)
abbrev pub pattern_cmp : Pattern → Pattern → Ordering
pattern_cmp p q = path_cmp (map part_text p) (map part_text q)

-- the text of a pattern: a slash before the text of each part, and for the empty pattern a slash alone
abbrev pub printed_pattern : Pattern → List ℕ
printed_pattern p = printed (map part_text p)

-- ---- as data: what distinguishes two patterns

-- what a part of a pattern holds: a key, or the name of a capture
abbrev pub Side : Type 0
Side = Key ⊎ List ℕ

-- what this part holds
abbrev pub side_of : PatternPart → Side
side_of (literal key) = inl key
side_of (capture name) = inr name

-- the part that holds this
abbrev pub of_side : Side → PatternPart
of_side (inl key) = literal key
of_side (inr name) = capture name

-- each part comes back from what it holds
pub of_side-side_of : (part : PatternPart) → of_side (side_of part) ≡ part
of_side-side_of (literal key) = refl
of_side-side_of (capture name) = refl

-- a pattern is distinguished by what its parts hold
abbrev pub pattern_code : Coded Pattern
pattern_code = coded_list (code_by Side (coded⊎ (coded_list coded_ℕ) (coded_list coded_ℕ)) side_of of_side of_side-side_of)
