-- A seat while it is its turn, and after it.
use Rattle.std.specs.Prelude.{◌≡◌, ℕ, ◌^◌, ◌<◌, List, [], ◌∷◌, ◌++◌, length, IsTrue, Option, Some}
use mathlib.Core.List.{IsPrefix}
use Rattle.atomic_table.specs.Table.{Me}
use Rattle.rtdb_model.specs.declared.event.Event.{Event}
use Rattle.rtdb_model.specs.State.{State}
use Rattle.locked_server.specs.declared.called.Called.{Called}
use Rattle.locked_server.specs.declared.content.Content.{Content}
use Rattle.locked_server.specs.declared.entry.Entry.{Entry}
use Rattle.locked_server.specs.declared.view.View.{View}
use Rattle.locked_server.specs.declared.view.Stage.TheVariants.{Serving}
use Rattle.locked_server.specs.History.{is_in, calls_of, changes_in, Leaves}
use Rattle.locked_server.specs.Working.Rule.{at_rest, view_with, empty_part}

-- what a seat has of its own: its view, and what it took out of the table
abbrev Mine : Type 0
Mine = Me (Option Content) View

-- it has the database out, in the state that the history leaves and with the count of its changes, and the history has room for one entry more
abbrev pub HasDatabase : Mine → Type 0
HasDatabase m = (m.0 ≡ view_with m.0.opening m.0.first.seen m.0.first.numbers empty_part Serving)
    × ((x : Content) × (m.1 ≡ (0, Some x) ∷ []) × Leaves m.0.opening m.0.first.seen x.core × (x.changes ≡ changes_in m.0.first.seen))
    × (length m.0.first.seen < 2 ^ 62) × ((n : ℕ) × IsTrue (is_in m.0.first.numbers n))

-- the call, answered so, is the last entry of the history, which is legal and of which the changes are counted, and the database is home
abbrev pub IsEntered : Mine → Mine → ℕ → ℕ → Event → Called → Type 0
IsEntered m m' now session event called = (n : ℕ) × IsTrue (is_in m.0.first.numbers n)
    × (m' ≡ (at_rest m.0.opening (m.0.first.seen ++ record { seat = n; now = now; session = session; event = event; reply = called.reply } ∷ []) m.0.first.numbers, []))
    × ((left : State) × Leaves m.0.opening (m.0.first.seen ++ record { seat = n; now = now; session = session; event = event; reply = called.reply } ∷ []) left)
    × (called.changes ≡ changes_in m'.0.first.seen)

-- the state is what a history leaves that begins with what was seen, and has no further entry of the view's numbers
abbrev pub Ends : View → State → Type 0
Ends v left = (history : List Entry) × Leaves v.opening history left × IsPrefix v.first.seen history × (calls_of v.first.numbers history ≡ calls_of v.first.numbers v.first.seen)
