use Rattle.std.proofs.Common.{◌≡◌, ◌≤◌, ◌++◌, map, take, drop}
use Rattle.rtdb_model.specs.FilledWrites.{filled_in}
use Rattle.rtdb_model.proofs.writes.fill_all.Given as goal

-- those before the index are filled in
abbrev pub invariant-loop-i : goal.invariant-loop-i
invariant-loop-i l = l.writes.items ≡ map (filled_in l.now) (take l.i l.initial.writes.items) ++ drop l.i l.initial.writes.items
