-- What a server does, and what it has printed when it ends. (This project's profile.)
use Rattle.std.specs.Prelude.{◌≡◌, ℕ, ◌+◌, ◌^◌, ◌≤◌, ◌⊎◌, ⊤, List, [], ◌∷◌, ◌++◌, All, map, flat_map, length, codes, Option}
use Rattle.std.specs.Fmt.{decimal}
use Rattle.std.specs.Io.KnownBytes.{Appends}
use mathlib.Core.List.{IsPrefix}
use Rattle.tokens.specs.Tokens.{Tokens}
use Rattle.locked_server.specs.History.{Shuffled}
use Rattle.rtdb_model.specs.State.{State}
use Rattle.locked_server.specs.Known.{Known, Closes, SeesLegal}
use Rattle.sessions.specs.Traffic.{Traffic}
use Rattle.sessions.specs.Calls.{Answered, calls, entries_of, HasSpent}
use Rattle.sessions.specs.Turns.{Deeds}
use Rattle.sessions.specs.Serving.{IsVisit}
use Rattle.sessions.specs.declared.serve.SessionEnd.{SessionEnd}
use Rattle.server.specs.declared.rounds.TheConstants.{TURNS}
use Rattle.server.specs.declared.shifts.Shifts.{Shifts}

-- ---- what is printed

-- the line that says where it listens
abbrev pub listening_text : ℕ → List ℕ
listening_text port = codes "listening 127.0.0.1:" ++ (decimal port ++ 10 ∷ [])

-- the line that says how many entries the history has
abbrev pub served_text : ℕ → List ℕ
served_text entries = codes "served " ++ (decimal entries ++ 10 ∷ [])

-- ---- what workers do

-- one after another
abbrev pub joined : {A : Type 0} → List (List A) → List A
joined lists = flat_map (λ list. list) lists

-- these are all calls that a session makes for one client, whoever that is
abbrev pub AreOfVisit : Tokens → ℕ → List Answered → Type 0
AreOfVisit tokens session asked = (messages : List (List ℕ)) × (d : Deeds) × (left : Traffic) × (end : SessionEnd) × IsVisit tokens session TURNS messages d left end × (asked ≡ d.calls)

-- these are all calls of a worker, who serves at most so many clients, one after another, each as this session
abbrev pub AreOfWorker : Tokens → ℕ → ℕ → List Answered → Type 0
AreOfWorker tokens rounds session asked = (visits : List (List Answered)) × All (AreOfVisit tokens session) visits × (length visits ≤ rounds) × (asked ≡ joined visits)

-- each of these lists has all calls of one worker: the first serves as this session, and each other as the session after that of the one before
abbrev pub AreOfWorkers : Tokens → ℕ → ℕ → List (List Answered) → Type 0
AreOfWorkers tokens rounds session [] = ⊤
AreOfWorkers tokens rounds session (asked ∷ others) = AreOfWorker tokens rounds session asked × AreOfWorkers tokens rounds (session + 1) others

-- the last list has each element of all these once, those of each list in their order, and nothing else
abbrev pub AllShuffled : {A : Type 0} → List (List A) → List A → Type 0
AllShuffled [] all = all ≡ []
AllShuffled {A} (xs ∷ others) all = (rest : List A) × AllShuffled others rest × Shuffled xs rest all

-- ---- what a seat knows then

-- the seat is at the same hall, and has seen what it had, and maybe more
pub record GoesOn (k l : Known) : Type 0 where
  pub hall : l.hall ≡ k.hall
  pub opening : l.opening ≡ k.opening
  pub begins : IsPrefix k.seen l.seen

-- So many workers have served, the first as this session. The seat has seen what they did: its own calls are those that it had and those of all workers, shuffled, and no others. Where one of these was answered that the history is as long as it may be, the seat has seen that it is.
pub record HaveServed (tokens : Tokens) (rounds session workers : ℕ) (k l : Known) : Type 0 where
  pub goes : GoesOn k l
  pub made : List (List Answered)
  pub each : AreOfWorkers tokens rounds session made
  pub number : length made ≡ workers
  pub shuffled : AllShuffled (calls k ∷ map entries_of made) (calls l)
  pub full : HasSpent (joined made) → 2 ^ 62 ≤ length l.seen

-- Two lines were printed: where the server listens, and how many entries a legal history of the seat's hall has, which this seat has seen once all workers had served, from session 1 on.
abbrev pub HasPrinted : Tokens → Shifts → ℕ → Known → Known → Option (List ℕ) → Option (List ℕ) → Type 0
HasPrinted tokens shifts port k l before after = HaveServed tokens shifts.rounds 1 shifts.workers k l × SeesLegal l × Appends before after (listening_text port ++ served_text (length l.seen))

-- The two lines were printed, and this database was left: by a history that begins with the one that was counted, and has no call of the seat or of a worker behind it.
abbrev pub HasServed : Tokens → Shifts → ℕ → Known → State → Option (List ℕ) → Option (List ℕ) → Type 0
HasServed tokens shifts port k left before after = (l : Known) × HasPrinted tokens shifts port k l before after × Closes l left

-- The first line was printed, or nothing.
abbrev pub IsCutShort : ℕ → Option (List ℕ) → Option (List ℕ) → Type 0
IsCutShort port before after = Appends before after [] ⊎ Appends before after (listening_text port)
