-- A path: the list of keys that leads from the root to a location.
use Rattle.std.specs.Prelude.{◌&&◌, List, [], ◌∷◌, map, length, Bool, true, false, not, nat_le, if◌then◌else◌, Option, Some, None, is_some}
use Rattle.std.specs.List.{list_all}
use Rattle.std.specs.Option.{option_map_or}
use Rattle.std.specs.Str.{bytes_eq}
use Rattle.std.specs.declared.cmp.Ordering.{Ordering}
use Rattle.std.specs.Cmp.Lexicographic.{slice_cmp}
use Rattle.tree_model.specs.declared.limits.TheConstants.{MAX_DEPTH}
use Rattle.tree_model.specs.Key.{Key, key_cmp, is_key}

-- the empty list is the path of the root
abbrev pub Path : Type 0
Path = List Key

-- the order of paths: by the list of keys, a prefix first. (This project's profile.)
abbrev pub path_cmp : Path → Path → Ordering
path_cmp = slice_cmp key_cmp

-- what is left of q below p, where p is a prefix of q
abbrev pub strip_prefix : Path → Path → Option Path
strip_prefix [] q = Some q
strip_prefix (k ∷ p) [] = None
strip_prefix (k ∷ p) (l ∷ q) = if bytes_eq k l then strip_prefix p q else None

-- p is a prefix of q, or q itself
abbrev pub is_prefix : Path → Path → Bool
is_prefix p q = is_some (strip_prefix p q)

-- the path of the root
abbrev pub is_root : Path → Bool
is_root [] = true
is_root (k ∷ p) = false

-- p is a prefix of q, and something of q is left below p
abbrev pub is_proper_prefix : Path → Path → Bool
is_proper_prefix p q = option_map_or (λ rest. not (is_root rest)) (strip_prefix p q) false

-- the prefixes of a path, shortest first, from the root to the path itself
abbrev pub prefixes : Path → List Path
prefixes [] = [] ∷ []
prefixes (k ∷ p) = [] ∷ map (λ q. k ∷ q) (prefixes p)

-- a lawful path: lawful keys, at most 32 of them. (Guide "Structure Your Database", avoid nesting data.)
unfoldable pub is_path : Path → Bool
is_path p = list_all is_key p && nat_le (length p) MAX_DEPTH
