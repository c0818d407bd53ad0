-- The calls that a session makes. (This project's profile.)
use Rattle.std.specs.Prelude.{◌≡◌, ◌≤◌, ◌^◌, ℕ, Bool, true, false, not, List, [], ◌∷◌, ◌++◌, map, filter, length, Ok}
use Rattle.std.specs.List.{list_any}
use mathlib.Core.List.{IsPrefix}
use Rattle.atomic_table.specs.Seated.{TableId}
use Rattle.tokens.specs.Tokens.{Tokens}
use Rattle.requests.specs.declared.message.Form.TheVariants.{Socket}
use Rattle.requests.specs.declared.ask.Asked.{Asked}
use Rattle.requests.specs.Ask.{IsAsked}
use Rattle.rtdb_model.specs.declared.event.Event.{Event}
use Rattle.rtdb_model.specs.declared.reply.Reply.{Reply}
use Rattle.rtdb_model.specs.declared.reply.Reply.TheVariants.{Refused}
use Rattle.rtdb_model.specs.declared.reply.Refusal.TheVariants.{Spent}
use Rattle.rtdb_model.specs.Step.{Call}
use Rattle.locked_server.specs.declared.entry.Entry.{Entry}
use Rattle.locked_server.specs.History.{call_of}
use Rattle.locked_server.specs.Known.{Known, IsSameSeat, own}

-- a client has asked for this event by this message, which the session reads at this moment: whichever secrets there are
abbrev pub AsksFor : ℕ → ℕ → List ℕ → Event → Type 0
AsksFor now session message event = (tokens : Tokens) × (asked : Asked) × IsAsked tokens (Socket (record { now = now; session = session })) message (Ok asked) × (event ≡ asked.event)

-- a caller may ask each hall
abbrev pub AsksAny : (TableId → Type 0) → Type 0
AsksAny asks = (hall : TableId) → asks hall

-- a call of the database, with its reply
pub record Answered : Type 0 where
  pub call : Call
  pub reply : Reply

-- the call of an entry, whichever seat made it
abbrev pub answered_in : Entry → Answered
answered_in e = record { call = call_of e; reply = e.reply }

-- the calls that a seat has made, in order
abbrev pub calls : Known → List Answered
calls k = map answered_in (own k)

-- as many events were answered as may be
abbrev pub is_spent : Reply → Bool
is_spent (Refused Spent) = true
is_spent reply = false

-- a call, with its reply
abbrev pub called : ℕ → ℕ → Event → Reply → List Answered
called now session event reply = record { call = record { now = now; session = session; event = event }; reply = reply } ∷ []

-- those of these calls that are entries of the history: all but those that were answered that it is as long as it may be
abbrev pub entries_of : List Answered → List Answered
entries_of asked = filter (λ (a : Answered). not (is_spent a.reply)) asked

-- one of these calls was answered that the history is as long as it may be
abbrev pub HasSpent : List Answered → Type 0
HasSpent asked = list_any (λ (a : Answered). is_spent a.reply) asked ≡ true

-- the seat has asked these calls since, and no others, and has seen all that it had seen; where one was answered that the history is as long as it may be, the seat has seen that it is
pub record Gains (k : Known) (asked : List Answered) (l : Known) : Type 0 where
  pub same : IsSameSeat k l
  pub begins : IsPrefix k.seen l.seen
  pub more : calls l ≡ calls k ++ entries_of asked
  pub full : HasSpent asked → 2 ^ 62 ≤ length l.seen
