-- The bytes of a text, wherever they lie.
use Rattle.std.specs.Prelude.{ℕ, List, string_bytes}
use Rattle.json_tree.specs.declared.leaf.Words.{Words}
use Rattle.json_tree.specs.declared.leaf.Words.TheVariants.{Short, Long}

-- the bytes of a short text or of a long one
abbrev pub bytes_of : Words → List ℕ
bytes_of (Short text) = text.bytes
bytes_of (Long text) = string_bytes text
