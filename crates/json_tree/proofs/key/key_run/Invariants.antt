use Rattle.std.proofs.Common.{◌≡◌, ◌≤◌, ◌-◌, true, length, take}
use Rattle.std.specs.List.{list_all}
use Rattle.tree_model.specs.Key.{is_key_byte}
use Rattle.json_tree.proofs.key.key_run.Given as goal

-- the bytes so far may stand in a key
abbrev pub invariant-loop-n : goal.invariant-loop-n
invariant-loop-n l = record { within : l.n ≤ length l.bytes; passes : list_all is_key_byte (take l.n l.bytes) ≡ true }

abbrev pub decreases-loop-n : goal.decreases-loop-n
decreases-loop-n l = length l.bytes - l.n
