-- What is read of a listener.
use Rattle.std.specs.Prelude.{option_map}
use Rattle.listeners.specs.Table as table
use Rattle.listeners.specs.declared.table.Listener.{Listener}

-- the listener that these borrowed parts are
abbrev pub seen : Listener → table.Listener
seen l = record { id = l.id.now; path = l.path.now; query = option_map (λ query. query.now) l.query; live = l.is_live; marked = l.is_marked }
