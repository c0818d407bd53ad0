-- The front of a text: its first eight bytes as one number.
use Rattle.std.specs.Prelude.{◌≡◌, ℕ, ◌+◌, ◌<◌, List, Bool, true, length, slice_index}
use Rattle.std.specs.Int.{w64, from_be_bytes}

-- a number is the front of a text, whose elements are bytes: the first eight of them as a big-endian number, 0 for one that is not there
pub record IsFrontOf (text : List ℕ) (front : ℕ) : Type 0 where
  pub bytes : (i : ℕ) → slice_index text i < 256
  pub is : front ≡ from_be_bytes w64 text

-- a text that its front distinguishes from each key: it is shorter than a front, and its last byte is not 0
pub record IsTold (text : List ℕ) : Type 0 where
  pub short : length text < 8
  pub ends : (n : ℕ) → n + 1 ≡ length text → 0 < slice_index text n

-- a text that is sought, with its front, and whether that distinguishes it from each key
pub record IsSought (text : List ℕ) (front : ℕ) (is_told : Bool) : Type 0 where
  pub spells : IsFrontOf text front
  pub told : is_told ≡ true → IsTold text
