-- The bytes of a key, wherever they lie.
use Rattle.std.specs.Prelude.{ℕ, List, string_bytes}
use Rattle.json_tree.specs.declared.key.Held.{Held}
use Rattle.json_tree.specs.declared.key.Held.TheVariants.{Short, Long}

-- the bytes of a short key or of a long one
abbrev pub bytes_of : Held → List ℕ
bytes_of (Short text) = text.bytes
bytes_of (Long text) = string_bytes text
