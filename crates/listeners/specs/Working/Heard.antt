-- A listener as it is kept: an entry of a map, whose key is its id.
use Rattle.std.specs.Prelude.{ℕ, List, true, false}
use Rattle.listeners.specs.Table.{Listener}
use Rattle.listeners.specs.declared.table.Heard.{Heard}

-- the listener that an entry holds
abbrev pub listener_of : List ℕ × Heard → Listener
listener_of e = record { id = e.0; path = e.1.path; query = e.1.query; live = e.1.live; marked = e.1.marked }

-- the entry with a mark
abbrev pub marked_in : Heard → Heard
marked_in heard = record { path = heard.path; query = heard.query; live = heard.live; marked = true }

-- the entry, cancelled
abbrev pub cancelled_in : Heard → Heard
cancelled_in heard = record { path = heard.path; query = heard.query; live = false; marked = false }

-- the entry without a mark
abbrev pub unmarked_in : Heard → Heard
unmarked_in heard = record { path = heard.path; query = heard.query; live = heard.live; marked = false }
