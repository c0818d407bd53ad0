-- What holds of a seat between its calls, and what contracts see of it.
use Rattle.std.specs.Prelude.{◌≡◌, ℕ, [], IsTrue, Option}
use Rattle.atomic_table.specs.Table.{Me}
use Rattle.atomic_table.specs.Seated.{TableId}
use Rattle.locked_server.specs.declared.content.Content.{Content}
use Rattle.locked_server.specs.declared.view.View.{View}
use Rattle.locked_server.specs.History.{is_in, IsLegal}
use Rattle.locked_server.specs.Known.{Known}
use Rattle.locked_server.specs.Working.Rule.{at_rest}

-- what contracts see of a seat at this hall that knows this
abbrev pub known_of : TableId → View → Known
known_of hall v = record { hall = hall; opening = v.opening; numbers = v.first.numbers; seen = v.first.seen }

-- between its calls a seat has no ticket and no database, has seen a legal history, and has a number
abbrev pub Rests : Me (Option Content) View → Type 0
Rests me = (me ≡ (at_rest me.0.opening me.0.first.seen me.0.first.numbers, [])) × IsLegal me.0.opening me.0.first.seen × ((n : ℕ) × IsTrue (is_in me.0.first.numbers n))
