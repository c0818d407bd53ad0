-- What contracts see of a seat.
use Rattle.std.specs.Prelude.{◌≡◌, ℕ, ◌^◌, ◌≤◌, List, [], ◌∷◌, ◌++◌, length, IsTrue, refl}
use Rattle.std.specs.Coded.{Coded, code_by, coded×, coded_ℕ, coded_list}
use mathlib.Core.List.{IsPrefix}
use Rattle.atomic_table.specs.Seated.{TableId, table_id_coded}
use Rattle.rtdb_model.specs.declared.event.Event.{Event}
use Rattle.rtdb_model.specs.declared.reply.Reply.{Reply}
use Rattle.rtdb_model.specs.State.{State, state_code}
use Rattle.locked_server.specs.contracts.entry.Entry as entry
use Rattle.locked_server.specs.declared.entry.Entry.{Entry}
use Rattle.locked_server.specs.History.{is_in, calls_of, Leaves, IsLegal, Shuffled}

-- the hall, the state that its database opened in, the seat's own number and those of the seats that it took in, and the history that it has seen
pub record Known : Type 0 where
  pub hall : TableId
  pub opening : State
  pub numbers : List ℕ
  pub seen : List Entry

-- the seat's own calls: the entries that bear its numbers
abbrev pub own : Known → List Entry
own k = calls_of k.numbers k.seen

-- what it has seen is a legal history
abbrev pub SeesLegal : Known → Type 0
SeesLegal k = IsLegal k.opening k.seen

-- it is a seat at the same hall, with the same numbers
abbrev pub IsSameSeat : Known → Known → Type 0
IsSameSeat k l = (l.hall ≡ k.hall) × (l.opening ≡ k.opening) × (l.numbers ≡ k.numbers)

-- it has seen what it had, and maybe more; its own calls are those that it had
abbrev pub SeesMore : Known → Known → Type 0
SeesMore k l = IsPrefix k.seen l.seen × (own l ≡ own k)

-- The call was made: a history was seen that begins with all that was seen before, and ends with the call and its reply. Of what lies between, nothing is the seat's own; the call is the last of its own calls, behind those that it had.
abbrev pub Made : Known → Known → ℕ → ℕ → Event → Reply → Type 0
Made k l now session event reply = (n : ℕ) × IsTrue (is_in k.numbers n) × ((between : List Entry)
    × (l.seen ≡ (k.seen ++ between) ++ record { seat = n; now = now; session = session; event = event; reply = reply } ∷ [])
    × (own l ≡ own k ++ record { seat = n; now = now; session = session; event = event; reply = reply } ∷ []))

-- no call was made, and the history is as long as it may be
abbrev pub Missed : Known → Known → Type 0
Missed k l = SeesMore k l × (2 ^ 62 ≤ length l.seen)

-- one history was seen that begins with what each of the two had seen, and the own calls are those of both, each once, and each seat's in their order
abbrev pub Met : Known → Known → Known → Type 0
Met k other l = IsPrefix k.seen l.seen × IsPrefix other.seen l.seen × Shuffled (own k) (own other) (own l)

-- this state is left by a history that begins with what the seat has seen, and has no call of its numbers but its own calls
abbrev pub Closes : Known → State → Type 0
Closes k left = (history : List Entry) × Leaves k.opening history left × IsPrefix k.seen history × (calls_of k.numbers history ≡ own k)

-- ---- as data: what distinguishes two of these

-- the coding of what a seat knows
abbrev pub known_code : Coded Known
known_code = code_by (TableId × (State × (List ℕ × List Entry))) (coded× table_id_coded (coded× state_code (coded× (coded_list coded_ℕ) (coded_list entry.the_row.coded)))) (λ k. (k.hall, (k.opening, (k.numbers, k.seen))))
    (λ t. record { hall = t.0; opening = t.1.0; numbers = t.1.1.0; seen = t.1.1.1 }) (λ _. refl)
