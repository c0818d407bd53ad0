-- What an explanation owes the event that it explains.
use Rattle.std.specs.Prelude.{◌≡◌, ℕ, List, [], ◌∷◌, map, true, Option, ⊤}
use Rattle.std.specs.List.Sorted.{IsPermutation}
use Rattle.tree_model.specs.Path.{Path}
use Rattle.tree_model.specs.Put.{location, overlaps}
use Rattle.tree_model.specs.Write.{Write}
use Rattle.listeners.specs.Query.{Query}
use Rattle.judge.specs.declared.verdict.Verdict.{Verdict}
use Rattle.judge.specs.Judging.{IsReadVerdict, IsWriteVerdict}
use Rattle.rtdb_model.specs.declared.event.Event.{Event}
use Rattle.rtdb_model.specs.declared.event.Event.TheVariants.{Open, Close, SignIn, SignOut, Get, Set, Remove, Update, Listen, Unlisten, Poll, Tick, Deploy, OnSet, OnRemove, OnUpdate, OnCancel, Leave, RunNext}
use Rattle.rtdb_model.specs.State.{State, scene_at}
use Rattle.rtdb_model.specs.Step.{removal, tree_with}
use Rattle.rtdb_model.specs.Rejudged.{asked_for}
use Rattle.request_explainer.specs.Asked.{AskedRule, asked_to_read, asked_to_write}

-- what the rules in force say of a read that the session asks for at this moment: the verdict, and the rules that are asked
abbrev pub IsOnRead : State → ℕ → ℕ → Path → Option Query → Verdict → List AskedRule → Type 0
IsOnRead old now session path query verdict asked =
    IsReadVerdict (scene_at old now session) (asked_for query) path verdict
    × (asked ≡ asked_to_read (scene_at old now session) (asked_for query) path)

-- what they say of writes that the session asks for at this moment, by the tree that they propose
abbrev pub IsOnWrites : State → ℕ → ℕ → List Write → Verdict → List AskedRule → Type 0
IsOnWrites old now session writes verdict asked =
    IsWriteVerdict (scene_at old now session) (tree_with old now writes) (map location writes) verdict
    × (asked ≡ asked_to_write (scene_at old now session) (tree_with old now writes) (map location writes) verdict)

-- the same of the writes of an update in some order, which makes no difference to the verdict
abbrev IsOnUpdate : State → ℕ → ℕ → List Write → Verdict → List AskedRule → Type 0
IsOnUpdate old now session writes verdict asked = (ordered : List Write) × (IsPermutation writes ordered × IsOnWrites old now session ordered verdict asked)

-- what the rules in force say of an event of the session: of what it reads, or of the writes that it makes or establishes. They say nothing of any other. (Guide "Core syntax"; disconnect actions: this project's profile.)
abbrev pub IsOnEvent : State → ℕ → ℕ → Event → Verdict → List AskedRule → Type 0
IsOnEvent old now session (Get path query) verdict asked = IsOnRead old now session path query verdict asked
IsOnEvent old now session (Listen id path query) verdict asked = IsOnRead old now session path query verdict asked
IsOnEvent old now session (Set write) verdict asked = IsOnWrites old now session (write ∷ []) verdict asked
IsOnEvent old now session (OnSet write) verdict asked = IsOnWrites old now session (write ∷ []) verdict asked
IsOnEvent old now session (Remove path) verdict asked = IsOnWrites old now session (removal path ∷ []) verdict asked
IsOnEvent old now session (OnRemove path) verdict asked = IsOnWrites old now session (removal path ∷ []) verdict asked
IsOnEvent old now session (Update writes) verdict asked = IsOnUpdate old now session writes verdict asked
IsOnEvent old now session (OnUpdate writes) verdict asked = IsOnUpdate old now session writes verdict asked
IsOnEvent old now session Open verdict asked = ⊥
IsOnEvent old now session Close verdict asked = ⊥
IsOnEvent old now session (SignIn who) verdict asked = ⊥
IsOnEvent old now session SignOut verdict asked = ⊥
IsOnEvent old now session (Unlisten id) verdict asked = ⊥
IsOnEvent old now session Poll verdict asked = ⊥
IsOnEvent old now session Tick verdict asked = ⊥
IsOnEvent old now session (Deploy rules) verdict asked = ⊥
IsOnEvent old now session (OnCancel path) verdict asked = ⊥
IsOnEvent old now session Leave verdict asked = ⊥
IsOnEvent old now session RunNext verdict asked = ⊥

-- these writes, in some order, overlap, which is refused before any rule is asked
abbrev Overlap : List Write → Type 0
Overlap writes = (ordered : List Write) × (IsPermutation writes ordered × (overlaps ordered ≡ true))

-- the event asks for no read and no write of its own, or its writes overlap, which one write never does. (What a run makes was asked for when it was established.)
abbrev pub IsUnasked : Event → Type 0
IsUnasked (Get path query) = ⊥
IsUnasked (Listen id path query) = ⊥
IsUnasked (Set write) = overlaps (write ∷ []) ≡ true
IsUnasked (OnSet write) = overlaps (write ∷ []) ≡ true
IsUnasked (Remove path) = overlaps (removal path ∷ []) ≡ true
IsUnasked (OnRemove path) = overlaps (removal path ∷ []) ≡ true
IsUnasked (Update writes) = Overlap writes
IsUnasked (OnUpdate writes) = Overlap writes
IsUnasked Open = ⊤
IsUnasked Close = ⊤
IsUnasked (SignIn who) = ⊤
IsUnasked SignOut = ⊤
IsUnasked (Unlisten id) = ⊤
IsUnasked Poll = ⊤
IsUnasked Tick = ⊤
IsUnasked (Deploy rules) = ⊤
IsUnasked (OnCancel path) = ⊤
IsUnasked Leave = ⊤
IsUnasked RunNext = ⊤
