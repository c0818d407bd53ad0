-- Writes that have a moment filled in.
use Rattle.std.specs.Prelude.{ℕ, Bool, true, false, List, map}
use Rattle.tree_model.specs.Write.{Write, made, as_write}

-- the write with this moment in the place of each
abbrev pub filled_in : ℕ → Write → Write
filled_in now w = as_write (made now w)

-- the writes that are held: those that were given, and once a moment was filled in with it in the place of each
abbrev pub held : Bool → ℕ → List Write → List Write
held true now ws = map (filled_in now) ws
held false now ws = ws
