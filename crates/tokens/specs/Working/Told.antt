-- What a function answers.
use Rattle.std.specs.Prelude.{◌≡◌, ◌⊎◌, Option, Some, None, Result, Ok, Err}
use Rattle.tokens.specs.declared.fault.TokensFault.{TokensFault}
use Rattle.tokens.specs.declared.fault.TokensFault.TheVariants.{NoMemory}

-- what was answered, seen by `see`, is what these words say, or there is none, or memory was wanting
abbrev pub Tells : {X Y : Type 0} → (X → Y) → Result X TokensFault → Option Y → Type 0
Tells see (Ok x) said = said ≡ Some (see x)
Tells see (Err fault) said = (fault ≡ NoMemory) ⊎ (said ≡ None)
