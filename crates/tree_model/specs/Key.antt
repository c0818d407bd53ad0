-- A key: the name of one child, as the bytes of its text.
use Rattle.std.specs.Prelude.{ℕ, ◌&&◌, ◌==◌, List, length, Bool, not, nat_le, codes}
use Rattle.std.specs.List.{list_all}
use Rattle.std.specs.Str.{is_utf8}
use Rattle.std.specs.declared.cmp.Ordering.{Ordering}
use Rattle.std.specs.Ordering.{nat_cmp}
use Rattle.std.specs.Cmp.Lexicographic.{slice_cmp}
use Rattle.tree_model.specs.declared.limits.TheConstants.{MAX_KEY_BYTES}

-- the bytes of a key
abbrev pub Key : Type 0
Key = List ℕ

-- the order of keys: by their bytes, a shorter one before those that it begins. (This project's profile.)
abbrev pub key_cmp : Key → Key → Ordering
key_cmp = slice_cmp nat_cmp

-- a byte that may stand in a key: no ASCII control character, and none of . $ # [ ] / (Guide "Structure Your Database", how data is structured.)
abbrev pub is_key_byte : ℕ → Bool
is_key_byte b = nat_le 32 b && not (b == 127) && list_all (λ sign. not (b == sign)) (codes ".$#[]/")

-- a lawful key: 1 to 768 bytes of UTF-8, each of which may stand there. (The same section; that a key is not empty is this project's profile.)
unfoldable pub is_key : Key → Bool
is_key k = nat_le 1 (length k) && nat_le (length k) MAX_KEY_BYTES && list_all is_key_byte k && is_utf8 k
