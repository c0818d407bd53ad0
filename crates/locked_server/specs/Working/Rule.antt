-- The rule of a hall's table, and what each step on it shows.
-- The history is stored nowhere: the rule says that there is one. Word 0 is its length, word 1 the next ticket, and the slot has the database in the state that it leaves, or a seat has the slot out, the one whose ticket is word 0.
use Rattle.std.specs.Prelude.{◌≡◌, ◌≢◌, ℕ, ◌<◌, ◌≤◌, Bool, true, false, ◌⊎◌, List, [], ◌∷◌, ◌++◌, length, IsTrue, Option, Some}
use Rattle.std.specs.FinMap as map_of
use mathlib.Core.Option.{some, none}
use mathlib.Core.Option as maybe
use mathlib.Core.List.{IsPrefix}
use lib.ListN.{get_elem?}
use Rattle.atomic_table.specs.Table.{State as TableState, Me, Step as TableStep}
use Rattle.tree_model.specs.Tree.{null}
use Rattle.rtdb_model.specs.State.{State, opening}
use Rattle.locked_server.specs.declared.entry.Entry.{Entry}
use Rattle.locked_server.specs.declared.view.HistoryPart.{HistoryPart}
use Rattle.locked_server.specs.declared.content.LastCall.{LastCall}
use Rattle.locked_server.specs.declared.content.Content.{Content}
use Rattle.locked_server.specs.declared.view.View.{View}
use Rattle.locked_server.specs.declared.view.Stage.{Stage}
use Rattle.locked_server.specs.declared.view.Stage.TheVariants.{Resting, Waiting, Serving, Joined}
use Rattle.locked_server.specs.History.{is_in, calls_of, changes_in, Leaves, IsLegal}

-- ---- what a seat knows

-- it has the database
abbrev pub is_serving : Stage → Bool
is_serving Resting = false
is_serving (Waiting ticket) = false
is_serving Serving = true
is_serving Joined = false

-- it was taken in by another seat
abbrev pub is_joined : Stage → Bool
is_joined Resting = false
is_joined (Waiting ticket) = false
is_joined Serving = false
is_joined Joined = true

-- its ticket, where it has one
abbrev pub ticket_of : Stage → ℕ
ticket_of Resting = 0
ticket_of (Waiting ticket) = ticket
ticket_of Serving = 0
ticket_of Joined = 0

-- a beginning of the history, and numbers of seats of which it has all calls
abbrev pub part : List Entry → List ℕ → HistoryPart
part seen numbers = record { seen = seen; numbers = numbers }

-- the beginning with no entries, and no numbers
abbrev pub empty_part : HistoryPart
empty_part = part [] []

-- the view of a seat at this stage: the opening state, what it has seen, its numbers, and its second part
abbrev pub view_with : State → List Entry → List ℕ → HistoryPart → Stage → View
view_with opening seen numbers second stage = record { opening = opening; first = part seen numbers; second = second; stage = stage }

-- the first seat: it has number 0, and has seen nothing
abbrev pub first_view : State → View
first_view opening = view_with opening [] (0 ∷ []) empty_part Resting

-- a seat between its calls, which has taken all in that it took
abbrev pub at_rest : State → List Entry → List ℕ → View
at_rest opening seen numbers = view_with opening seen numbers empty_part Resting

-- the same view with a ticket
abbrev pub with_ticket : View → ℕ → View
with_ticket v ticket = view_with v.opening v.first.seen v.first.numbers v.second (Waiting ticket)

-- a seat that was taken in: it knows nothing any more
abbrev pub emptied : View
emptied = view_with (opening map_of.empty null) [] [] empty_part Joined

-- a seat that another has made: it has seen as much, and has no number yet
abbrev pub unnumbered : View → View
unnumbered v = at_rest v.opening v.first.seen []

-- a seat that has taken another in: it keeps what both have seen apart, until it looks at the history
abbrev pub with_other : View → View → View
with_other v w = view_with v.opening v.first.seen v.first.numbers w.first Resting

-- the entry that the last call of a seat makes
abbrev pub entry_of : ℕ → LastCall → Entry
entry_of n a = record { seat = n; now = a.now; session = a.session; event = a.event.value; reply = a.reply.value }

-- ---- the rule

-- the number of each of these entries was given to a seat
abbrev pub AreBelow : ℕ → List Entry → Type 0
AreBelow n [] = Unit {0}
AreBelow n (e ∷ es) = (e.seat < n) × AreBelow n es

-- a part of a view fits the whole history: that begins with it, and has no further entry of its numbers, which were given to it, and which it alone has; `at` is the seat, and whether this is the first part of its view
pub record PartFits (log : List Entry) (next : ℕ) (owner : ℕ → ℕ × Bool) (at : ℕ × Bool) (p : HistoryPart) : Type 0 where
  pub begins : IsPrefix p.seen log
  pub whole : calls_of p.numbers log ≡ calls_of p.numbers p.seen
  pub owns : (n : ℕ) → IsTrue (is_in p.numbers n) → (n < next) × (owner n ≡ at)

-- so does a stage: a ticket is the seat's own, was drawn, and has not been served; who has the database has the ticket that is served, and has seen the whole history
abbrev pub StageFits : List Entry → ℕ → (ℕ → ℕ) → ℕ → List Entry → Stage → Type 0
StageFits log tickets holder j seen Resting = Unit {0}
StageFits log tickets holder j seen (Waiting ticket) = (holder ticket ≡ j) × (length log ≤ ticket) × (ticket < tickets)
StageFits log tickets holder j seen Serving = (holder (length log) ≡ j) × (length log < tickets) × (seen ≡ log)
StageFits log tickets holder j seen Joined = Unit {0}

-- and so does the view of seat j, which opens as the hall does as long as it makes calls
pub record ViewFits (opening : State) (log : List Entry) (next tickets : ℕ) (owner : ℕ → ℕ × Bool) (holder : ℕ → ℕ) (j : ℕ) (v : View) : Type 0 where
  pub opens : is_joined v.stage ≡ false → v.opening ≡ opening
  pub first : PartFits log next owner (j, true) v.first
  pub second : PartFits log next owner (j, false) v.second
  pub stage : StageFits log tickets holder j v.first.seen v.stage

-- the slot is at home, with the database in this state and this count of changes, or out with this seat, whose turn it is
abbrev pub SlotFits : List (maybe.Option (Option Content)) → State → ℕ → List View → ℕ → Type 0
SlotFits homes left count views turn = ((x : Content) × (homes ≡ some (Some x) ∷ []) × (x.core ≡ left) × (x.changes ≡ count))
    ⊎ ((homes ≡ none ∷ []) × ((v : View) × (get_elem? views turn ≡ some v) × (is_serving v.stage ≡ true)))

-- There is a history, `log`, which is legal from this opening and leaves a state. The words are its length and the number of tickets drawn, the slot fits it and what it has changed, and so does the view of each seat. `next` is the number that the next seat gets, the owner of a number is the part of a view that has it, and the holder of a ticket is the seat that drew it.
pub record IsKept (opening : State) (s : TableState (Option Content) View) : Type 0 where
  pub log : List Entry
  pub left : State
  pub next : ℕ
  pub tickets : ℕ
  pub owner : ℕ → ℕ × Bool
  pub holder : ℕ → ℕ
  pub run : Leaves opening log left
  pub words : s.words ≡ length log ∷ tickets ∷ []
  pub ordered : length log ≤ tickets
  pub slot : SlotFits s.homes left (changes_in log) s.views (holder (length log))
  pub numbered : AreBelow next log
  pub each_seat : (j : ℕ) (v : View) → get_elem? s.views j ≡ some v → ViewFits opening log next tickets owner holder j v

-- ---- what each step shows

-- what a seat knows, and what it holds
abbrev Mine : Type 0
Mine = Me (Option Content) View

-- of a step, the seat before it, the number that the step found, and the seat after it
abbrev Told : Type 1
Told = TableStep (Option Content) → Mine → ℕ → Mine → Type 0

-- the seat got a number, which no entry bears
abbrev pub IsNumbered : Told
IsNumbered s m found m' = (m'.1 ≡ m.1) × ((n : ℕ) × (m'.0 ≡ at_rest m.0.opening m.0.first.seen (n ∷ [])) × (calls_of (n ∷ []) m.0.first.seen ≡ []))

-- the whole history was seen, of this length: it is legal, begins with what each part had seen, and has no further entry of their numbers, of which they have none in common
pub record Sees (m m' : View) (found : ℕ) : Type 0 where
  pub is : m' ≡ at_rest m.opening m'.first.seen (m.first.numbers ++ m.second.numbers)
  pub long : length m'.first.seen ≡ found
  pub legal : IsLegal m'.opening m'.first.seen
  pub begins : IsPrefix m.first.seen m'.first.seen
  pub begins_too : IsPrefix m.second.seen m'.first.seen
  pub whole : calls_of m.first.numbers m'.first.seen ≡ calls_of m.first.numbers m.first.seen
  pub whole_too : calls_of m.second.numbers m'.first.seen ≡ calls_of m.second.numbers m.second.seen
  pub apart : (n : ℕ) → IsTrue (is_in m.first.numbers n) → IsTrue (is_in m.second.numbers n) → ⊥

-- the seat looked at the history
abbrev pub HasLooked : Told
HasLooked s m found m' = (m'.1 ≡ m.1) × Sees m.0 m'.0 found

-- the seat drew this ticket, or another ticket is the next, and nothing has changed
abbrev pub HasDrawn : Told
HasDrawn s m found m' = (m'.1 ≡ m.1)
    × (found ≡ s.first → m'.0 ≡ view_with m.0.opening m.0.first.seen m.0.first.numbers m.0.second (Waiting s.first))
    × (found ≢ s.first → m'.0 ≡ m.0)

-- the turn of the seat has come: it has seen the whole history, and has the database, in the state that this leaves, with the count of its changes
pub record Turn (m m' : Mine) (found : ℕ) : Type 0 where
  pub content : Content
  pub is : m'.0 ≡ view_with m.0.opening m'.0.first.seen m.0.first.numbers empty_part Serving
  pub slot : m'.1 ≡ (0, Some content) ∷ m.1
  pub long : length m'.0.first.seen ≡ found
  pub leaves : Leaves m'.0.opening m'.0.first.seen content.core
  pub counted : content.changes ≡ changes_in m'.0.first.seen
  pub begins : IsPrefix m.0.first.seen m'.0.first.seen
  pub whole : calls_of m.0.first.numbers m'.0.first.seen ≡ calls_of m.0.first.numbers m.0.first.seen

-- the turn of the seat has come, or nothing has changed
abbrev pub HasWatched : Told
HasWatched s m found m' = (found ≡ ticket_of m.0.stage → Turn m m' found) × (found ≢ ticket_of m.0.stage → m' ≡ m)

-- the call that stands beside the database is the last entry of the history, and the database is home
abbrev pub HasEntered : Told
HasEntered s m found m' = (n : ℕ) × IsTrue (is_in m.0.first.numbers n)
    × ((x : Content) (a : LastCall) → m.1 ≡ (0, Some x) ∷ [] → x.last ≡ Some a
    → m' ≡ (at_rest m.0.opening (m.0.first.seen ++ entry_of n a ∷ []) m.0.first.numbers, []))
