-- A line that comes in parts, and what of it is held.
use Rattle.std.specs.Prelude.{◌≡◌, ℕ, ◌+◌, ◌==◌, Bool, false, List, take}
use Rattle.std.specs.List.{All}
use Rattle.json_lines.specs.declared.limits.TheConstants.{MAX_MESSAGE_BYTES}
use Rattle.scripts.specs.Lines.{is_blank}

-- how many bytes of a line its answer rests on: one more than a message may have, which shows that it is too large
abbrev pub FRONT_BYTES : ℕ
FRONT_BYTES = MAX_MESSAGE_BYTES + 1

-- that front of a line
unfoldable pub front : List ℕ → List ℕ
front line = take FRONT_BYTES line

-- the front of a line is kept, and whether the line is blank
abbrev pub KeepsFront : List ℕ → Bool → List ℕ → Type 0
KeepsFront kept blank line = (kept ≡ front line) × (blank ≡ is_blank line)

-- the text has the front of the line, and it is known whether the line is blank
abbrev pub ShowsFront : List ℕ → Bool → List ℕ → Type 0
ShowsFront text blank line = (front text ≡ front line) × (blank ≡ is_blank line)

-- there is no line feed in the text
abbrev pub IsPlain : List ℕ → Type 0
IsPlain text = All (λ b. (b == 10) ≡ false) text
