-- What a function answers.
use Rattle.std.specs.Prelude.{◌≡◌, ◌⊎◌, Option, Some, None, Result, Ok, Err}
use Rattle.entries.specs.declared.entry.EntryFault.{EntryFault}
use Rattle.entries.specs.declared.entry.EntryFault.TheVariants.{NoMemory}

-- what was answered, seen by `see`, is what these words say, or there is none, or memory was wanting
abbrev pub Gives : {X Y : Type 0} → (X → Y) → Result X EntryFault → Option Y → Type 0
Gives see (Ok x) said = said ≡ Some (see x)
Gives see (Err fault) said = (fault ≡ NoMemory) ⊎ (said ≡ None)
