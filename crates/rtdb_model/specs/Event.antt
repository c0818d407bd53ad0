-- Events as data: what distinguishes two events.
use Rattle.std.specs.Prelude.{◌≡◌, ℕ, List, Option, None, Some, refl}
use Rattle.std.proofs.Common.{inl, inr, ◌⊎◌}
use Rattle.std.specs.Coded.{Coded, code_by, coded×, coded⊎, coded_ℕ, coded_list, coded_option}
use Rattle.tree_model.specs.Path.{Path}
use Rattle.tree_model.specs.Draft.{draft_code}
use Rattle.tree_model.specs.Write.{Write}
use Rattle.evaluator.specs.Identity.{Identity, identity_code}
use Rattle.listeners.specs.Query.{Query, query_code}
use Rattle.rules_reader.specs.Book.{Book, book_code}
use Rattle.rtdb_model.specs.declared.event.Event.{Event}
use Rattle.rtdb_model.specs.declared.event.Event.TheVariants.{Open, Close, SignIn, SignOut, Get, Set, Remove, Update, Listen, Unlisten, Poll, Tick, Deploy, OnSet, OnRemove, OnUpdate, OnCancel, Leave, RunNext}

-- what a read asks for
abbrev Asked : Type 0
Asked = Path × Option Query

-- what an event for when the session goes has: a write, a path, writes, or a path
abbrev LaterParts : Type 0
LaterParts = Write ⊎ (Path ⊎ (List Write ⊎ Path))

-- what an event that has anything has: an identity, a read, a write, a path, writes, an id and a read, an id, rules, or what one for when the session goes has
abbrev Parts : Type 0
Parts = Identity ⊎ (Asked ⊎ (Write ⊎ (Path ⊎ (List Write ⊎ ((List ℕ × Asked) ⊎ (List ℕ ⊎ (Book ⊎ LaterParts)))))))

-- the seven others have nothing
abbrev Data : Type 0
Data = Option (Option (Option (Option (Option (Option (Option Parts))))))

-- the data of an event that has this
abbrev of_parts : Parts → Data
of_parts parts = Some (Some (Some (Some (Some (Some (Some parts))))))

-- the data of an event for when the session goes that has this
abbrev of_later : LaterParts → Data
of_later parts = of_parts (inr (inr (inr (inr (inr (inr (inr (inr parts))))))))

-- an event as data
abbrev data_of : Event → Data
data_of Open = None
data_of Close = Some None
data_of SignOut = Some (Some None)
data_of Poll = Some (Some (Some None))
data_of Tick = Some (Some (Some (Some None)))
data_of Leave = Some (Some (Some (Some (Some None))))
data_of RunNext = Some (Some (Some (Some (Some (Some None)))))
data_of (SignIn who) = of_parts (inl who)
data_of (Get path query) = of_parts (inr (inl (path, query)))
data_of (Set write) = of_parts (inr (inr (inl write)))
data_of (Remove path) = of_parts (inr (inr (inr (inl path))))
data_of (Update writes) = of_parts (inr (inr (inr (inr (inl writes)))))
data_of (Listen id path query) = of_parts (inr (inr (inr (inr (inr (inl (id, (path, query))))))))
data_of (Unlisten id) = of_parts (inr (inr (inr (inr (inr (inr (inl id)))))))
data_of (Deploy rules) = of_parts (inr (inr (inr (inr (inr (inr (inr (inl rules))))))))
data_of (OnSet write) = of_later (inl write)
data_of (OnRemove path) = of_later (inr (inl path))
data_of (OnUpdate writes) = of_later (inr (inr (inl writes)))
data_of (OnCancel path) = of_later (inr (inr (inr path)))

-- the event for when the session goes that has this
abbrev event_of_later : LaterParts → Event
event_of_later (inl write) = OnSet write
event_of_later (inr (inl path)) = OnRemove path
event_of_later (inr (inr (inl writes))) = OnUpdate writes
event_of_later (inr (inr (inr path))) = OnCancel path

-- the event that has this
abbrev event_of_parts : Parts → Event
event_of_parts (inl who) = SignIn who
event_of_parts (inr (inl read)) = Get read.0 read.1
event_of_parts (inr (inr (inl write))) = Set write
event_of_parts (inr (inr (inr (inl path)))) = Remove path
event_of_parts (inr (inr (inr (inr (inl writes))))) = Update writes
event_of_parts (inr (inr (inr (inr (inr (inl asked)))))) = Listen asked.0 asked.1.0 asked.1.1
event_of_parts (inr (inr (inr (inr (inr (inr (inl id))))))) = Unlisten id
event_of_parts (inr (inr (inr (inr (inr (inr (inr (inl rules)))))))) = Deploy rules
event_of_parts (inr (inr (inr (inr (inr (inr (inr (inr later)))))))) = event_of_later later

-- the event that these data are
abbrev event_of : Data → Event
event_of None = Open
event_of (Some None) = Close
event_of (Some (Some None)) = SignOut
event_of (Some (Some (Some None))) = Poll
event_of (Some (Some (Some (Some None)))) = Tick
event_of (Some (Some (Some (Some (Some None))))) = Leave
event_of (Some (Some (Some (Some (Some (Some None)))))) = RunNext
event_of (Some (Some (Some (Some (Some (Some (Some parts))))))) = event_of_parts parts

-- the data of an event give it back
pub event_of-data_of : (event : Event) → event_of (data_of event) ≡ event
event_of-data_of Open = refl
event_of-data_of Close = refl
event_of-data_of SignOut = refl
event_of-data_of Poll = refl
event_of-data_of Tick = refl
event_of-data_of Leave = refl
event_of-data_of RunNext = refl
event_of-data_of (SignIn who) = refl
event_of-data_of (Get path query) = refl
event_of-data_of (Set write) = refl
event_of-data_of (Remove path) = refl
event_of-data_of (Update writes) = refl
event_of-data_of (Listen id path query) = refl
event_of-data_of (Unlisten id) = refl
event_of-data_of (Deploy rules) = refl
event_of-data_of (OnSet write) = refl
event_of-data_of (OnRemove path) = refl
event_of-data_of (OnUpdate writes) = refl
event_of-data_of (OnCancel path) = refl

-- the coding of a path
abbrev path_code : Coded Path
path_code = coded_list (coded_list coded_ℕ)

-- the coding of a write
abbrev write_code : Coded Write
write_code = coded× path_code draft_code

-- the coding of what a read asks for
abbrev asked_code : Coded Asked
asked_code = coded× path_code (coded_option query_code)

-- the coding of what an event has
abbrev parts_code : Coded Parts
parts_code = coded⊎ identity_code (coded⊎ asked_code (coded⊎ write_code (coded⊎ path_code (coded⊎ (coded_list write_code) (coded⊎ (coded× (coded_list coded_ℕ) asked_code) (coded⊎ (coded_list coded_ℕ) (coded⊎ book_code (coded⊎ write_code (coded⊎ path_code (coded⊎ (coded_list write_code) path_code))))))))))

-- the coding of an event
abbrev pub event_code : Coded Event
event_code = code_by Data (coded_option (coded_option (coded_option (coded_option (coded_option (coded_option (coded_option parts_code))))))) data_of event_of event_of-data_of
