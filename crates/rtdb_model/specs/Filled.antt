-- Events whose writes have the moment of their step filled in.
use Rattle.std.specs.Prelude.{ℕ, map, ⊤}
use Rattle.tree_model.specs.Put.{written}
use Rattle.tree_model.specs.Draft.{IsFixed}
use Rattle.tree_model.specs.Write.{AreFixed}
use Rattle.rtdb_model.specs.FilledWrites.{filled_in}
use Rattle.rtdb_model.specs.declared.event.Event.{Event}
use Rattle.rtdb_model.specs.declared.event.Event.TheVariants.{Open, Close, SignIn, SignOut, Get, Set, Remove, Update, Listen, Unlisten, Poll, Tick, Deploy, OnSet, OnRemove, OnUpdate, OnCancel, Leave, RunNext}

-- the event with this moment in the place of each in what it writes at once; what is to be written when the session goes has the moment of its run
abbrev pub filled : ℕ → Event → Event
filled now Open = Open
filled now Close = Close
filled now (SignIn who) = SignIn who
filled now SignOut = SignOut
filled now (Get path query) = Get path query
filled now (Set write) = Set (filled_in now write)
filled now (Remove path) = Remove path
filled now (Update writes) = Update (map (filled_in now) writes)
filled now (Listen id path query) = Listen id path query
filled now (Unlisten id) = Unlisten id
filled now Poll = Poll
filled now Tick = Tick
filled now (Deploy rules) = Deploy rules
filled now (OnSet write) = OnSet write
filled now (OnRemove path) = OnRemove path
filled now (OnUpdate writes) = OnUpdate writes
filled now (OnCancel path) = OnCancel path
filled now Leave = Leave
filled now RunNext = RunNext

-- no moment stands in what the event writes at once
abbrev pub IsFilled : Event → Type 0
IsFilled Open = ⊤
IsFilled Close = ⊤
IsFilled (SignIn who) = ⊤
IsFilled SignOut = ⊤
IsFilled (Get path query) = ⊤
IsFilled (Set write) = IsFixed (written write)
IsFilled (Remove path) = ⊤
IsFilled (Update writes) = AreFixed writes
IsFilled (Listen id path query) = ⊤
IsFilled (Unlisten id) = ⊤
IsFilled Poll = ⊤
IsFilled Tick = ⊤
IsFilled (Deploy rules) = ⊤
IsFilled (OnSet write) = ⊤
IsFilled (OnRemove path) = ⊤
IsFilled (OnUpdate writes) = ⊤
IsFilled (OnCancel path) = ⊤
IsFilled Leave = ⊤
IsFilled RunNext = ⊤
