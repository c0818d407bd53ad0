-- The turns of a session: what a server does for each message, and for what its client listens to. (This project's profile.)
use Rattle.std.specs.Prelude.{◌≡◌, ℕ, ◌⊎◌, List, [], ◌∷◌, ◌++◌, flat_map, Ok, Err}
use Rattle.tokens.specs.Tokens.{Tokens}
use Rattle.rtdb_model.specs.declared.event.Event.{Event}
use Rattle.rtdb_model.specs.declared.event.Event.TheVariants.{Poll}
use Rattle.rtdb_model.specs.declared.reply.Reply.{Reply}
use Rattle.rtdb_model.specs.declared.reply.Reply.TheVariants.{News}
use Rattle.requests.specs.declared.message.Form.TheVariants.{Socket}
use Rattle.requests.specs.declared.ask.Asked.{Asked}
use Rattle.requests.specs.declared.ask.LineFault.{LineFault}
use Rattle.requests.specs.Ask.{IsAsked}
use Rattle.answers.specs.AnswerText.{text, line_fault_text, pushed_text}
use Rattle.sessions.specs.Calls.{Answered, called}

-- ---- what is done

-- what a server does in a session: the moments that it reads off the clock, the calls that it makes, and the texts that it sends, each in order
pub record Deeds : Type 0 where
  pub moments : List ℕ
  pub calls : List Answered
  pub texts : List (List ℕ)

-- nothing was done
abbrev pub nothing : Deeds
nothing = record { moments = []; calls = []; texts = [] }

-- one after the other
abbrev pub both : Deeds → Deeds → Deeds
both d e = record { moments = d.moments ++ e.moments; calls = d.calls ++ e.calls; texts = d.texts ++ e.texts }

-- the same, but that its texts are not sent
abbrev pub unsent : Deeds → Deeds
unsent d = record d { texts = [] }

-- a call at the moment that the clock says
abbrev pub calling : ℕ → ℕ → Event → Reply → Deeds
calling now session event reply = record { moments = now ∷ []; calls = called now session event reply; texts = [] }

-- ---- a message, and its answer

-- the message asks an event, which makes one call, and the answer is the text of its reply
abbrev pub AsksEvent : Tokens → ℕ → ℕ → List ℕ → List ℕ → List Answered → Type 0
AsksEvent tokens now session message said made =
    (asked : Asked) × IsAsked tokens (Socket (record { now = now; session = session })) message (Ok asked)
    × ((reply : Reply) × (said ≡ text reply) × (made ≡ called now session asked.event reply))

-- the message asks nothing: it has a fault, nobody has its secret, its rules file is refused, or memory is wanting; it makes no call, and the answer is the text of that fault
abbrev pub AsksNothing : Tokens → ℕ → ℕ → List ℕ → List ℕ → List Answered → Type 0
AsksNothing tokens now session message said made =
    (fault : LineFault) × IsAsked tokens (Socket (record { now = now; session = session })) message (Err fault)
    × (said ≡ line_fault_text fault) × (made ≡ [])

-- the answer to a message that a session reads at this moment, and the call that it makes, if any
abbrev pub IsAnswered : Tokens → ℕ → ℕ → List ℕ → List ℕ → List Answered → Type 0
IsAnswered tokens now session message said made = AsksEvent tokens now session message said made ⊎ AsksNothing tokens now session message said made

-- ---- a turn

-- the first half of a turn: one message at most, and its answer
abbrev pub Answers : Tokens → ℕ → List (List ℕ) → Deeds → Type 0
Answers tokens session [] d = d ≡ nothing
Answers tokens session (message ∷ []) d =
    (now : ℕ) × (said : List ℕ) × (made : List Answered) × IsAnswered tokens now session message said made
    × (d ≡ record { moments = now ∷ []; calls = made; texts = said ∷ [] })
Answers tokens session (message ∷ other ∷ more) d = ⊥

-- what is sent behind a poll that is answered so: its news, where there are any
abbrev pub push_of : Reply → List (List ℕ)
push_of (News (notice ∷ notices)) = pushed_text (notice ∷ notices) ∷ []
push_of reply = []

-- the second half of a turn: a poll, and the push of its news
abbrev pub Pushes : ℕ → Deeds → Type 0
Pushes session d = (now : ℕ) × (reply : Reply) × (d ≡ record (calling now session Poll reply) { texts = push_of reply })

-- a turn: the messages that are received in it, and what is done
pub record Turn : Type 0 where
  pub got : List (List ℕ)
  pub does : Deeds

-- both halves, one after the other
abbrev pub IsWhole : Tokens → ℕ → Turn → Type 0
IsWhole tokens session t = (answer push : Deeds) × Answers tokens session t.got answer × Pushes session push × (t.does ≡ both answer push)

-- a turn with which a session ends: nothing more than the calls of what comes next was made, and its text, if it has one, was not sent
abbrev pub IsCut : Tokens → ℕ → Turn → List (List ℕ) → Type 0
IsCut tokens session t held =
    (answer : Deeds) × Answers tokens session t.got answer
    × (((t.does ≡ unsent answer) × (held ≡ answer.texts)) ⊎ ((push : Deeds) × Pushes session push × (t.does ≡ both answer (unsent push)) × (held ≡ push.texts)))

-- ---- turns

-- the messages that are received in these turns, in order
abbrev pub got_in : List Turn → List (List ℕ)
got_in turns = flat_map (λ (t : Turn). t.got) turns

-- what is done in these turns, one after another
abbrev pub deeds_in : List Turn → Deeds
deeds_in [] = nothing
deeds_in (t ∷ turns) = both t.does (deeds_in turns)
