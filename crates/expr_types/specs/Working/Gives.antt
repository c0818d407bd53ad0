-- What the checker answers, memory aside.
use Rattle.std.specs.Prelude.{◌≡◌, Option, Some, None, Result, Ok, Err}
use Rattle.expr_types.specs.Faults.{HasName}
use Rattle.expr_types.specs.declared.fault.TypeFault.{TypeFault}
use Rattle.expr_types.specs.declared.fault.TypeFault.TheVariants.{NotInProfile, TypeError, UnknownName, NoMemory}

-- what is found is a fault that has a name
abbrev pub FindsName : {A : Type 0} → Result A TypeFault → Type 0
FindsName (Ok x) = ⊥
FindsName (Err e) = HasName e

-- the fault is what is found, unless memory for its name is refused
abbrev pub Refuses : {A : Type 0} → TypeFault → Result A TypeFault → Type 0
Refuses NoMemory found = FindsName found
Refuses (NotInProfile f) found = found ≡ Err (NotInProfile f)
Refuses TypeError found = found ≡ Err TypeError
Refuses (UnknownName f) found = found ≡ Err (UnknownName f)

-- what is answered is what is found; where there is no answer, the fault that is reported is found, unless memory for its name is refused
abbrev pub Gives : {A : Type 0} → Option A → TypeFault → Result A TypeFault → Type 0
Gives (Some x) fault found = found ≡ Ok x
Gives None fault found = Refuses fault found
