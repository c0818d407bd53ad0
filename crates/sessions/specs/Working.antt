-- Words of private contracts. No public clause names one.
use Rattle.std.specs.Prelude.{ℕ, List, [], ◌∷◌, Option, None, Some}
use Rattle.tokens.specs.Tokens.{Tokens}
use Rattle.locked_server.specs.Known.{Known}
use Rattle.sessions.specs.Traffic.{Traffic, IsOpen}
use Rattle.sessions.specs.Calls.{Answered}
use Rattle.sessions.specs.Turns.{Deeds, unsent, IsAnswered, Answers, Pushes, Turn, IsWhole, IsCut, got_in, deeds_in}
use Rattle.sessions.specs.Departure.{Run, runs_in, AreRun, Departs}
use Rattle.sessions.specs.Serving.{World, world, Goes, Fits, EndsAs}
use Rattle.sessions.specs.declared.serve.SessionEnd.{SessionEnd}

-- what is done for a message: one moment is read, the call is made that the message asks for, and this is its answer
abbrev pub replying : ℕ → List ℕ → List Answered → Deeds
replying now said made = record { moments = now ∷ []; calls = made; texts = said ∷ [] }

-- the message was answered and the peer is still there, or the session ends and the answer was not sent
abbrev pub RepliesOr : Tokens → ℕ → List ℕ → World → World → Option SessionEnd → Type 0
RepliesOr tokens session message before after None =
    (now : ℕ) × (said : List ℕ) × (made : List Answered) × IsAnswered tokens now session message said made × Goes before [] (replying now said made) after × IsOpen after.traffic
RepliesOr tokens session message before after (Some end) =
    (now : ℕ) × (said : List ℕ) × (made : List Answered) × IsAnswered tokens now session message said made × Goes before [] (unsent (replying now said made)) after × Fits end after.traffic (said ∷ [])

-- the first half of a turn went by, or the session ends with it
abbrev pub AnswersOr : Tokens → ℕ → World → World → Option SessionEnd → Type 0
AnswersOr tokens session before after None = (got : List (List ℕ)) × (d : Deeds) × Answers tokens session got d × Goes before got d after × IsOpen after.traffic
AnswersOr tokens session before after (Some end) = (got : List (List ℕ)) × (d : Deeds) × Answers tokens session got d × Goes before got (unsent d) after × Fits end after.traffic d.texts

-- the second half of a turn went by, or the session ends with it
abbrev pub PushesOr : ℕ → World → World → Option SessionEnd → Type 0
PushesOr session before after None = (d : Deeds) × Pushes session d × Goes before [] d after × IsOpen after.traffic
PushesOr session before after (Some end) = (d : Deeds) × Pushes session d × Goes before [] (unsent d) after × Fits end after.traffic d.texts

-- a turn went by, or the session ends with it
abbrev pub TurnsOr : Tokens → ℕ → World → World → Option SessionEnd → Type 0
TurnsOr tokens session before after None = (t : Turn) × IsWhole tokens session t × Goes before t.got t.does after × IsOpen after.traffic
TurnsOr tokens session before after (Some end) = (t : Turn) × (held : List (List ℕ)) × IsCut tokens session t held × Goes before t.got t.does after × Fits end after.traffic held

-- the turns of a session that is open
abbrev pub HasTurns : Tokens → ℕ → ℕ → World → SessionEnd → World → Type 0
HasTurns tokens session most before end after = (turns : List Turn) × Goes before (got_in turns) (deeds_in turns) after × EndsAs tokens session most turns after.traffic end

-- this was done by a seat, at moments that the clock gave, and nothing went between the server and its peer
abbrev pub Quietly : Known → Option (List ℕ) → Deeds → Known → Option (List ℕ) → Type 0
Quietly k m d l n = (p : Traffic) → Goes (world k m p) [] d (world l n p)

-- the session's actions were run
abbrev pub RunsActions : ℕ → Known → Option (List ℕ) → Known → Option (List ℕ) → Type 0
RunsActions session k m l n = (runs : List Run) × AreRun runs × Quietly k m (runs_in session runs) l n

-- the session went
abbrev pub DepartsBy : ℕ → Known → Option (List ℕ) → Known → Option (List ℕ) → Type 0
DepartsBy session k m l n = (d : Deeds) × Departs session d × Quietly k m d l n
