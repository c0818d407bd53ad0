-- The bytes of a name, wherever they lie.
use Rattle.std.specs.Prelude.{ℕ, List, string_bytes}
use Rattle.expr_tokens.specs.declared.name.HeldName.{HeldName}
use Rattle.expr_tokens.specs.declared.name.HeldName.TheVariants.{Short, Long}

-- the bytes of a short name or of a long one
abbrev pub bytes_of : HeldName → List ℕ
bytes_of (Short text) = text.bytes
bytes_of (Long text) = string_bytes text
