-- Histories: the calls that a hall has answered, one after another.
use Rattle.std.specs.Prelude.{◌≡◌, ℕ, Bool, false, ◌==◌, ◌||◌, List, [], ◌∷◌, length, map, filter, ◌⊎◌}
use Rattle.rtdb_model.specs.declared.reply.Reply.{Reply}
use Rattle.rtdb_model.specs.State.{State, identity_of}
use Rattle.rtdb_model.specs.Step.{Call, Run}
use Rattle.rtdb_model.specs.Headline.{rules_after, identity_after, DeployFiles, IsJudged}
use Rattle.rtdb_laws.specs.Effects.{changing}
use Rattle.locked_server.specs.declared.entry.Entry.{Entry}

-- what was asked, with its moment and its session
abbrev pub call_of : Entry → Call
call_of e = record { now = e.now; session = e.session; event = e.event }

-- what it was answered
abbrev pub reply_of : Entry → Reply
reply_of e = e.reply

-- these calls, with these replies, are a run of the database from this state, and leave that one: so a database of one thread can answer them, one after another; what they deploy are rules as rules files have them
unfoldable pub Leaves : State → List Entry → State → Type 0
Leaves opening history left = Run opening (map call_of history) (map reply_of history) left × DeployFiles (map call_of history)

-- a legal history from this state: one that leaves some state
abbrev pub IsLegal : State → List Entry → Type 0
IsLegal opening history = (left : State) × Leaves opening history left

-- ---- what they change

-- the calls of these entries that may have changed more than listeners, in their order
abbrev pub changed_in : List Entry → List Call
changed_in entries = changing (map call_of entries) (map reply_of entries)

-- how many those are
abbrev pub changes_in : List Entry → ℕ
changes_in entries = length (changed_in entries)

-- ---- whose calls they are

-- the number is one of these
abbrev pub is_in : List ℕ → ℕ → Bool
is_in [] n = false
is_in (m ∷ ms) n = (m == n) || is_in ms n

-- the entries that bear one of these numbers, in their order
abbrev pub calls_of : List ℕ → List Entry → List Entry
calls_of numbers history = filter (λ e. is_in numbers e.seat) history

-- the last list has all of the first and all of the second, each once, those of each list in their order, and nothing else
unfoldable pub Shuffled : {A : Type 0} → List A → List A → List A → Type 0
Shuffled xs ys [] = (xs ≡ []) × (ys ≡ [])
Shuffled {A} xs ys (z ∷ zs) = ((rest : List A) × (xs ≡ z ∷ rest) × Shuffled rest ys zs) ⊎ ((rest : List A) × (ys ≡ z ∷ rest) × Shuffled xs rest zs)

-- ---- what is promised of each

-- An entry between others of a history: the states that the entries before it and it leave, that the rules in force at it are those of the last deployment that was done before it, that who is signed in on its session is whom the calls of the session left there, and that it is judged.
pub record IsJudgedAt (opening : State) (earlier : List Entry) (e : Entry) (later : List Entry) (left : State) : Type 0 where
  pub before : State
  pub after : State
  pub arrives : Leaves opening earlier before
  pub in_force : before.rules ≡ rules_after opening.rules (map call_of earlier) (map reply_of earlier)
  pub signed_in : identity_of before e.session ≡ identity_after e.session (identity_of opening e.session) (map call_of earlier) (map reply_of earlier)
  pub judged : IsJudged before (call_of e) (reply_of e) after
  pub goes_on : Leaves after later left
