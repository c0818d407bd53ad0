-- What is told of a call, and what a reader answers.
use Rattle.std.specs.Prelude.{◌≡◌, ◌⊎◌, ℕ, List, [], Option, Some, Result, Ok, Err, ⊤}
use Rattle.rtdb_model.specs.declared.event.Event.{Event}
use Rattle.requests.specs.declared.message.Wanted.{Wanted}
use Rattle.requests.specs.Ask.{ComesTo}
use Rattle.entries.specs.declared.entry.Deed.{Deed}
use Rattle.entries.specs.declared.entry.EntryFault.{EntryFault}
use Rattle.entries.specs.declared.entry.EntryFault.TheVariants.{NotAnEntry, NoMemory}
use Rattle.entries.specs.Entry.{Meaning, rules, tree, begin, session, action, call, IsCall, event_named, deed_event, deployed_text, SignsInBy}

-- the text tells of a deed
abbrev pub IsDeed : List ℕ → Deed → Type 0
IsDeed told deed = (event_named told ≡ Some (deed_event deed)) ⊎ SignsInBy told (deed_event deed)

-- what was read, seen by `see`, is so, or nothing is so, or memory was wanting
abbrev pub Reads : {X Y : Type 0} → (X → Y) → (Y → Type 0) → Result X EntryFault → Type 0
Reads see IsSo (Ok x) = IsSo (see x)
Reads {Y = Y} see IsSo (Err NotAnEntry) = (y : Y) → IsSo y → ⊥
Reads see IsSo (Err NoMemory) = ⊤

-- an event, and the text of the rules file that it deploys
abbrev pub Told : Type 0
Told = Event × Option (List ℕ)

-- what is wanted comes to this event where nobody has a token
abbrev pub IsWanted : Wanted → Told → Type 0
IsWanted wanted told = ComesTo [] wanted told.0 × (told.1 ≡ deployed_text wanted)

-- the bytes mean this call
abbrev pub MeansCall : List ℕ → Meaning → Type 0
MeansCall bytes (call made text) = IsCall bytes made text
MeansCall bytes (rules text) = ⊥
MeansCall bytes (tree piece) = ⊥
MeansCall bytes begin = ⊥
MeansCall bytes (session number leaving who) = ⊥
MeansCall bytes (action number writes) = ⊥
