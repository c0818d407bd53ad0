-- The numbers that texts of digits write, as far as they may be those of 32 bits.
use Rattle.std.specs.Prelude.{ℕ, List, nat_le, if◌then◌else◌, Option, Some, None, option_and_then}
use Rattle.std.specs.List.{list_all}
use Rattle.listeners.specs.Order.{is_digit, decimal_after, natural_of}

-- a number of at most 2^31
abbrev pub if_near : ℕ → Option ℕ
if_near n = if nat_le n 2147483648 then Some n else None

-- the number that digits write, if it is one of these
abbrev pub near_of : List ℕ → Option ℕ
near_of text = option_and_then if_near (natural_of text)

-- what is read of digits that follow those of n
abbrev pub read_after : ℕ → List ℕ → Option ℕ
read_after n text = if list_all is_digit text then if_near (decimal_after n text) else None
